-- `bring_column` meets its contract. Assumes nothing.
use Rattle.matrix.specs.Grid.{load}
use Rattle.matrix.specs.Layouts.{lower}
use Rattle.twins.proofs.Fingerprints.{Bringing}
use Rattle.twins.proofs.bring_column.Given as goal

abbrev pub invariant-loop-i : goal.invariant-loop-i
invariant-loop-i l = Bringing l.y.order (load (lower l.y) l.a) l.c l.initial.fingerprints l.i l.own l.fingerprints
