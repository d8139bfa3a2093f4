-- `less_row` takes x times a row from another, one column after the other.
use Rattle.matrix.proofs.Turning.{Turning}
use Rattle.matrix.specs.Columns.{at_column}
use Rattle.lblt_solve_rows.specs.inner.Rows.{less_row}
use Rattle.lblt_solve_rows.proofs.less_row.Given as goal

abbrev pub invariant-loop-j : goal.invariant-loop-j
invariant-loop-j l = Turning 0 l.columns (at_column l.n (less_row l.i l.k l.x)) l.initial.b l.j l.b
