-- `copy` meets its contract. Assumes nothing.
use Rattle.strips.specs.inner.Strip.{row_at}
use Rattle.strips.proofs.Strips.{Partway}
use Rattle.strips.proofs.copy.Given as goal

abbrev pub invariant-loop-i : goal.invariant-loop-i
invariant-loop-i l = Partway l.to l.lo l.hi (row_at l.b l.from) l.initial.a l.i l.a
