-- `readers::copy` meets its contract. Assumes nothing.
use Rattle.cholesky.proofs.ReaderLoops.{Filling}
use Rattle.matrix.specs.Grid.{load}
use Rattle.matrix.specs.Layouts.{lower}
use Rattle.cholesky.specs.Readers.{triangle}
use Rattle.cholesky.proofs.readers.copy.Given as goal

abbrev pub invariant-loop-j : goal.invariant-loop-j
invariant-loop-j l = Filling l.y.order (triangle (load (lower l.y) l.a)) l.j l.l
