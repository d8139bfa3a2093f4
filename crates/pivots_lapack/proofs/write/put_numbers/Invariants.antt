-- `put_numbers`: row by row.
use Rattle.pivots_lapack.proofs.Lists.{NumbersWritten}
use Rattle.pivots_lapack.proofs.write.put_numbers.Given as goal

abbrev pub invariant-loop-row : goal.invariant-loop-row
invariant-loop-row l = NumbersWritten l.n l.words l.row l.list
