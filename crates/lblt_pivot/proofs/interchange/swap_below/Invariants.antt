-- `swap_below` meets its contract. Assumes nothing.
use Prim.Native.Nat.{◌+◌}
use Rattle.matrix.proofs.Grids.{Turned}
use Rattle.matrix.specs.Layouts.{lower}
use Rattle.lblt_pivot.specs.Interchange.{swap_below}
use Rattle.lblt_pivot.proofs.interchange.swap_below.Given as goal

abbrev pub invariant-loop-i : goal.invariant-loop-i
invariant-loop-i l = Turned (lower l.y) (l.p + 1) l.n (swap_below l.t l.p) l.initial.a l.i l.a
