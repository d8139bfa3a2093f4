-- `column_max` meets its contract: a loop over the rows below the first. Assumes nothing.
use Prim.Native.Nat.{◌+◌}
use Rattle.matrix.proofs.Loops.{Ran}
use Rattle.matrix.specs.Grid.{load}
use Rattle.matrix.specs.Layouts.{lower}
use Rattle.lblt_choice.specs.Choice.{greater}
use Rattle.lblt_choice.proofs.column_max.Given as goal

abbrev pub invariant-loop-i : goal.invariant-loop-i
invariant-loop-i l = Ran (l.k + 2) l.n (greater (load (lower l.y) l.a) l.k) l.initial.top l.i l.top
