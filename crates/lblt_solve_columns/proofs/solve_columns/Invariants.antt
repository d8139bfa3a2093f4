-- `solve_columns` solves one column after the other.
use Rattle.matrix.proofs.Turning.{Turning}
use Rattle.matrix.specs.Columns.{at_column}
use Rattle.lblt_solve_columns.specs.Column.{solve_column}
use Rattle.matrix.specs.Layouts.{lower}
use Rattle.matrix.specs.Grid.{load}
use Rattle.lblt_solve_columns.proofs.solve_columns.Given as goal

abbrev pub invariant-loop-j : goal.invariant-loop-j
invariant-loop-j l = Turning 0 l.columns (at_column l.y.order (solve_column l.y.order (load (lower l.y) l.a) l.words)) l.initial.b l.j l.b
