-- `gather_column` adds the later columns to column k, one after the other.
use Rattle.lblt_read.proofs.Gathers.{Adding}
use Rattle.lblt_read.proofs.permuted.gather_column.Given as goal

abbrev pub invariant-loop-i : goal.invariant-loop-i
invariant-loop-i l = Adding l.n l.k l.start l.from l.a l.initial.l l.i l.l
