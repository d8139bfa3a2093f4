-- `last` meets its contract. Assumes nothing.
use Rattle.std.proofs.Common.{◌≡◌, ◌+◌, ◌-◌, true, false, arith}
use Rattle.strips.proofs.Strips.{strip_nothing}
use Rattle.udu.proofs.Entries.{last_diagonal, last_entries, column_step}
use Rattle.udu.proofs.column.last.Goals as goal

pub returns-then-x : goal.returns-then-x
returns-then-x c =
    let last : c.args.n - 1 + 1 ≡ c.args.n = omega arith in
    column_step true (last_diagonal _ _ _ _ _ last) c.if-x.true strip_nothing

pub returns : goal.returns
returns c =
    let last : c.args.n - 1 + 1 ≡ c.args.n = omega arith in
    column_step false (last_diagonal _ _ _ _ _ last) c.if-x.false (last_entries _ _ _ _ _ last c.multiply.ensures)
