-- `fault` finds the first row that breaks the rule: before each block the answer is still the answer from k on.
use Prim.Native.Nat.{◌-◌}
use Rattle.pivots.proofs.Faults.{Going}
use Rattle.pivots.proofs.fault.Given as goal

abbrev pub invariant-loop-k : goal.invariant-loop-k
invariant-loop-k l = Going l.n l.words l.k

abbrev pub decreases-loop-k : goal.decreases-loop-k
decreases-loop-k l = l.n - l.k
