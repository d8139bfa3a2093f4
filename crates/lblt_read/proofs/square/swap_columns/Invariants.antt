-- `swap_columns` exchanges two columns, row by row.
use Rattle.lblt_read.proofs.Entrywise.{swap_at}
use Rattle.matrix.proofs.Grids.{Turned}
use Rattle.matrix.specs.Layouts.{square}
use Rattle.lblt_read.proofs.square.swap_columns.Given as goal

abbrev pub invariant-loop-row : goal.invariant-loop-row
invariant-loop-row l = Turned (square l.n) 0 l.n (swap_at l.p l.q) l.initial.l l.row l.l
