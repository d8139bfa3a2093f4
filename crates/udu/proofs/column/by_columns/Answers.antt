-- `by_columns` meets its contract. Assumes nothing.
use Rattle.std.proofs.Common.{arith}
use Rattle.matrix.proofs.Places.{digits_within}
use Rattle.udu.specs.inner.Contracts.{factors_in}
use Rattle.udu.proofs.Entries.{quotient_entry, with_diagonal_law}
use Rattle.udu.proofs.column.by_columns.Goals as goal

pub returns : goal.returns
returns c =
    with_diagonal_law c.args.n c.args.j (factors_in c.args.n c.args.u.now c.args.d.now) c.args.p.now c.args.x (omega (arith, digits_within c.args.n c.args.n c.args.j c.args.j c.requires.j_lt_n c.requires.j_lt_n))
    (quotient_entry c.args.n c.args.j (factors_in c.args.n c.args.u.now c.args.d.now) c.args.p.now c.args.x c.requires.j_lt_n c.crosses.ensures c.divide.ensures)
