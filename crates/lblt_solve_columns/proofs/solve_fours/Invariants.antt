-- `solve_fours` solves four columns at a time, and then those that are left.
use Rattle.std.specs.Prelude.{◌*◌}
use Rattle.matrix.proofs.Turning.{Turning}
use Rattle.matrix.specs.Columns.{at_column}
use Rattle.matrix.specs.Grid.{load}
use Rattle.matrix.specs.Layouts.{lower}
use Rattle.lblt_solve_columns.specs.Column.{solve_column}
use Rattle.lblt_solve_columns.proofs.solve_fours.Given as goal

abbrev pub invariant-loop-group : goal.invariant-loop-group
invariant-loop-group l = Turning 0 l.columns (at_column l.y.order (solve_column l.y.order (load (lower l.y) l.a) l.words)) l.initial.b (4 * l.group) l.b

abbrev pub invariant-loop-j : goal.invariant-loop-j
invariant-loop-j l = Turning 0 l.columns (at_column l.y.order (solve_column l.y.order (load (lower l.y) l.a) l.words)) l.fn.b l.j l.b
