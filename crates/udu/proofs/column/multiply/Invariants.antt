-- `multiply` meets its contract. Assumes nothing.
use Rattle.strips.proofs.Strips.{Partway}
use Rattle.udu.specs.inner.Contracts.{multiples_of}
use Rattle.udu.proofs.column.multiply.Given as goal

abbrev pub invariant-loop-i : goal.invariant-loop-i
invariant-loop-i l = Partway l.at 0 l.rows (multiples_of l.p l.at l.c) l.initial.u l.i l.u
