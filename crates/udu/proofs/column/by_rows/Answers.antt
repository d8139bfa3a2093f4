-- `by_rows` meets its contract. Assumes nothing.
use Rattle.std.proofs.Common.{arith}
use Rattle.matrix.proofs.Places.{digits_within}
use Rattle.strips.proofs.Strips.{strip_more, strip_all}
use Rattle.udu.specs.inner.Contracts.{factors_in}
use Rattle.udu.proofs.Entries.{row_entry, with_diagonal_law}
use Rattle.udu.proofs.column.by_rows.Goals as goal

pub loop-i-preserved : goal.loop-i-preserved
loop-i-preserved c =
    strip_more _ c.loop-i.invariant c.loop-i-test.true (omega (arith, digits_within c.args.n c.args.n c.args.j c.args.j c.requires.j_lt_n c.requires.j_lt_n))
    (row_entry c.args.n c.args.j c.loop-i.i c.args.d.now c.args.p.now c.args.x c.row.result c.loop-i.invariant c.loop-i-test.true c.requires.j_lt_n c.row.ensures)

pub returns : goal.returns
returns c =
    with_diagonal_law c.args.n c.args.j (factors_in c.args.n c.args.u.now c.args.d.now) c.args.p.now c.args.x (omega (arith, digits_within c.args.n c.args.n c.args.j c.args.j c.requires.j_lt_n c.requires.j_lt_n)) (strip_all c.loop-i.invariant c.loop-i-test.false)
