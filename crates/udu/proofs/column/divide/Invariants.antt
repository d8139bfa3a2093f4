-- `divide` meets its contract. Assumes nothing.
use Rattle.strips.proofs.Strips.{Partway}
use Rattle.udu.specs.inner.Contracts.{quotients_of}
use Rattle.udu.proofs.column.divide.Given as goal

abbrev pub invariant-loop-i : goal.invariant-loop-i
invariant-loop-i l = Partway l.at 0 l.rows (quotients_of l.p l.initial.u l.at l.x) l.initial.u l.i l.u
