-- `whole::by_digits` meets its contract.
use Rattle.leaf.proofs.Worked.{Worked}
use Rattle.leaf.proofs.whole.by_digits.Given as goal

abbrev pub invariant-loop-digit : goal.invariant-loop-digit
invariant-loop-digit l = Worked l.n l._digit l.s l.rest l.left
