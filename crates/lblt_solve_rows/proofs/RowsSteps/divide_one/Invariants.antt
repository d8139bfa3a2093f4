-- `divide_one` divides row k, one column after the other.
use Rattle.matrix.proofs.Turning.{Turning}
use Rattle.matrix.specs.Columns.{at_column}
use Rattle.lblt_solve_rows.proofs.Stores.{divide_by}
use Rattle.lblt_solve_rows.proofs.RowsSteps.divide_one.Given as goal

abbrev pub invariant-loop-j : goal.invariant-loop-j
invariant-loop-j l = Turning 0 l.fn.self.columns (at_column l.n (divide_by l.k l.d)) l.initial.b l.j l.b
