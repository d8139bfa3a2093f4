-- `gather_row` takes the later rows, times the factor, from one row.
use Rattle.matrix.proofs.Turning.{Turning}
use Rattle.std.specs.Prelude.{◌+◌, get_or}
use Rattle.std.specs.Float.{nan}
use Rattle.matrix.specs.Columns.{each_column}
use Rattle.lblt_solve_rows.specs.inner.Rows.{less_row}
use Rattle.lblt_solve_rows.proofs.RowsSteps.gather_row.Given as goal

abbrev pub invariant-loop-i : goal.invariant-loop-i
invariant-loop-i l = Turning l.from l.n (λ i'. each_column l.n l.fn.self.columns (less_row l.row i' (get_or l.a (i' + l.start) nan))) l.initial.b l.i l.b
