-- `steps` meets its contract: a loop over the steps. Assumes nothing.
use Prim.Native.Nat.{◌-◌}
use Rattle.lblt.proofs.Going.{Going}
use Rattle.lblt.proofs.steps.Given as goal

abbrev pub invariant-loop-s : goal.invariant-loop-s
invariant-loop-s l = Going l.y l.initial.a l.initial.words l.a l.words l.s

abbrev pub decreases-loop-s : goal.decreases-loop-s
decreases-loop-s l = l.n - l.s.row
