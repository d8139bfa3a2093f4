-- `readers::clear_above` meets its contract. Assumes nothing.
use Rattle.cholesky.proofs.ReaderLoops.{Unpacking}
use Rattle.cholesky.proofs.readers.clear_above.Given as goal

abbrev pub invariant-loop-j : goal.invariant-loop-j
invariant-loop-j l = Unpacking l.y l.initial.a l.j l.a
