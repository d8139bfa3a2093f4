-- `first_pair` meets its contract. Assumes nothing.
use Rattle.matrix.specs.Grid.{load}
use Rattle.matrix.specs.Layouts.{lower}
use Rattle.twins.proofs.Search.{Between}
use Rattle.twins.proofs.first_pair.Given as goal

abbrev pub invariant-loop-q : goal.invariant-loop-q
invariant-loop-q l = Between l.y.order (load (lower l.y) l.a) l.earlier l.q
