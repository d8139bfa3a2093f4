-- `put_record`: the pairs row by row, then the mark and the run number.
use Rattle.pivots_lapack.proofs.Records.{PairsWritten}
use Rattle.pivots_lapack.proofs.read.put_record.Given as goal

abbrev pub invariant-loop-row : goal.invariant-loop-row
invariant-loop-row l = PairsWritten l.n l.list l.row l.words
