-- `readers::diagonal` meets its contract. Assumes nothing.
use Rattle.matrix.specs.Grid.{load}
use Rattle.matrix.specs.Layouts.{lower}
use Rattle.matrix.proofs.Loops.{Ran}
use Rattle.matrix.specs.Rounded.{one}
use Rattle.cholesky.specs.Readers.{times}
use Rattle.cholesky.proofs.readers.diagonal.Given as goal

abbrev pub invariant-loop-i : goal.invariant-loop-i
invariant-loop-i l = Ran 0 l.y.order (times (load (lower l.y) l.a)) one l.i l.product
