-- `swap_rows` exchanges two rows, one column after the other.
use Rattle.matrix.proofs.Turning.{Turning}
use Rattle.matrix.specs.Columns.{at_column}
use Rattle.lblt_solve_columns.specs.Column.{swap_rows}
use Rattle.lblt_solve_rows.proofs.RowsSteps.swap_rows.Given as goal

abbrev pub invariant-loop-j : goal.invariant-loop-j
invariant-loop-j l = Turning 0 l.fn.self.columns (at_column l.n (λ l'. swap_rows l' l.p l.q)) l.initial.b l.j l.b
