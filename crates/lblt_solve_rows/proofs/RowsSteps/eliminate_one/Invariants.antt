-- `eliminate_one` takes column k of the factor, times row k, from the rows below.
use Rattle.matrix.proofs.Turning.{Turning}
use Rattle.std.specs.Prelude.{◌+◌, get_or}
use Rattle.std.specs.Float.{nan}
use Rattle.matrix.specs.Columns.{each_column}
use Rattle.lblt_solve_rows.specs.inner.Rows.{less_row}
use Rattle.lblt_solve_rows.proofs.RowsSteps.eliminate_one.Given as goal

abbrev pub invariant-loop-i : goal.invariant-loop-i
invariant-loop-i l = Turning (l.k + 1) l.n (λ i'. each_column l.n l.fn.self.columns (less_row i' l.k (get_or l.a (i' + l.start) nan))) l.initial.b l.i l.b
