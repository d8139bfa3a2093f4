-- `less_rows` takes the products of the rows from one on with a column of the factor from a row.
use Rattle.std.specs.Prelude.{ℕ, ◌≡◌, ◌<◌}
use Rattle.matrix.specs.Loop.{for}
use Rattle.matrix.specs.Columns.{column}
use Rattle.substitution.proofs.Offsets.{less_product_at}
use Rattle.substitution.proofs.less_rows.Given as goal

abbrev pub invariant-loop-i : goal.invariant-loop-i
invariant-loop-i g l = (j : ℕ) → j < g.R.Row.COLUMNS → g.R.Row.number l.less j ≡ for l.from l.i (less_product_at l.a (column l.n j l.b) l.start) (g.R.Row.number l.initial.less j)
