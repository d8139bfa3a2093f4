-- `columns` meets its contract. Assumes nothing.
use Rattle.udu.proofs.Reached.{Reached}
use Rattle.udu.proofs.columns.Given as goal

abbrev pub invariant-loop-j : goal.invariant-loop-j
invariant-loop-j l = Reached l.p l.n l.j l.u l.d
