-- `updated` meets its contract. Assumes nothing.
use Rattle.matrix.specs.Grid.{load}
use Rattle.matrix.specs.Layouts.{lower}
use Rattle.matrix.proofs.Loops.{Ran}
use Rattle.cholesky.specs.Column.{less}
use Rattle.teaching.proofs.updated.Given as goal

abbrev pub invariant-loop-k : goal.invariant-loop-k
invariant-loop-k l = Ran 0 l.c (less (load (lower l.y) l.a) l.r l.c) (load (lower l.y) l.a l.r l.c) l.k l.x
