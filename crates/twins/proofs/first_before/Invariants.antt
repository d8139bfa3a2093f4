-- `first_before` meets its contract. Assumes nothing.
use Rattle.matrix.specs.Grid.{load}
use Rattle.matrix.specs.Layouts.{lower}
use Rattle.twins.proofs.Search.{Before}
use Rattle.twins.proofs.first_before.Given as goal

abbrev pub invariant-loop-p : goal.invariant-loop-p
invariant-loop-p l = Before l.y.order (load (lower l.y) l.a) l.q l.p
