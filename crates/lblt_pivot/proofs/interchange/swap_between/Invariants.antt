-- `swap_between` meets its contract. Assumes nothing.
use Prim.Native.Nat.{◌+◌}
use Rattle.matrix.proofs.Grids.{Turned}
use Rattle.matrix.specs.Layouts.{lower}
use Rattle.lblt_pivot.specs.Interchange.{swap_between}
use Rattle.lblt_pivot.proofs.interchange.swap_between.Given as goal

abbrev pub invariant-loop-j : goal.invariant-loop-j
invariant-loop-j l = Turned (lower l.y) (l.t + 1) l.p (swap_between l.t l.p) l.initial.a l.j l.a
