-- `solve_transposed` goes back from the last row.
use Rattle.std.specs.Prelude.{◌≡◌, ℕ, ◌<◌, ◌-◌}
use Rattle.matrix.specs.Grid.{load}
use Rattle.matrix.specs.Layouts.{lower}
use Rattle.matrix.specs.Columns.{at, column, each_column}
use Rattle.matrix.proofs.Loops.{Fell}
use Rattle.cholesky_solve.specs.Triangles.{transposed_row}
use Rattle.cholesky_solve.proofs.solve_transposed.Given as goal

abbrev pub invariant-loop-i : goal.invariant-loop-i
invariant-loop-i g l =
    Fell (l.n - 1) (λ i. each_column l.n g.R.Row.COLUMNS (transposed_row l.n (load (lower l.y) l.a) i)) l.initial.b l.i l.b
    × ((j : ℕ) → j < g.R.Row.COLUMNS → g.R.Row.number l.last j ≡ at (column l.n j l.b) l.i)
