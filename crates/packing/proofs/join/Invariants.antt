-- `join` meets its contract. Assumes nothing.
use Rattle.packing.proofs.Joining.{Joining}
use Rattle.packing.proofs.join.Given as goal

abbrev pub invariant-loop-j : goal.invariant-loop-j
invariant-loop-j l = Joining l.m l.n l.old l.rows l.initial.fresh l.j l.fresh
