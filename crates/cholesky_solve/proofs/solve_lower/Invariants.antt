-- `solve_lower` goes forward two rows at a time, and then takes the row that is left.
use Rattle.std.specs.Prelude.{◌*◌}
use Rattle.matrix.specs.Grid.{load}
use Rattle.matrix.specs.Layouts.{lower}
use Rattle.matrix.specs.Columns.{each_column}
use Rattle.matrix.proofs.Turning.{Turning}
use Rattle.cholesky_solve.specs.Triangles.{lower_row}
use Rattle.cholesky_solve.proofs.solve_lower.Given as goal

abbrev pub invariant-loop-pair : goal.invariant-loop-pair
invariant-loop-pair g l = Turning 0 l.n (λ k. each_column l.n g.R.Row.COLUMNS (lower_row l.n (load (lower l.y) l.a) k)) l.initial.b (2 * l.pair) l.b
