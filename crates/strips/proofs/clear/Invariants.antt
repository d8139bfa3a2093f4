-- `clear` meets its contract. Assumes nothing.
use Rattle.strips.specs.inner.Strip.{zero_at}
use Rattle.strips.proofs.Strips.{Partway}
use Rattle.strips.proofs.clear.Given as goal

abbrev pub invariant-loop-i : goal.invariant-loop-i
invariant-loop-i l = Partway l.at l.lo l.hi zero_at l.initial.a l.i l.a
