-- `eliminate_two` takes two columns of the factor, times rows k and k+1, from the rows below.
use Rattle.matrix.proofs.Turning.{Turning}
use Rattle.std.specs.Prelude.{◌+◌, get_or}
use Rattle.std.specs.Float.{nan}
use Rattle.matrix.specs.Columns.{each_column}
use Rattle.lblt_solve_rows.specs.inner.Rows.{less_row}
use Rattle.lblt_solve_rows.proofs.RowsSteps.eliminate_two.Given as goal

abbrev pub invariant-loop-i : goal.invariant-loop-i
invariant-loop-i l = Turning (l.k + 2) l.n (λ i'. each_column l.n l.fn.self.columns (λ l'. less_row i' (l.k + 1) (get_or l.a (i' + l.next) nan) (less_row i' l.k (get_or l.a (i' + l.start) nan) l'))) l.initial.b l.i l.b
