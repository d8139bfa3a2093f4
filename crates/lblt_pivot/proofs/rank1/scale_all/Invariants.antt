-- `scale_all` meets its contract. Assumes nothing.
use Prim.Native.Nat.{◌+◌}
use Rattle.matrix.proofs.Grids.{Turned}
use Rattle.matrix.specs.Layouts.{lower}
use Rattle.lblt_pivot.specs.Update.{scale_at}
use Rattle.lblt_pivot.proofs.rank1.scale_all.Given as goal

abbrev pub invariant-loop-i : goal.invariant-loop-i
invariant-loop-i l = Turned (lower l.y) (l.k + 1) l.n (scale_at l.k l.inv) l.initial.a l.i l.a
