-- `by_pairs::all` meets its contract. Assumes nothing.
use Prim.Native.Nat.{◌-◌}
use Rattle.matrix.specs.Layouts.{lower}
use Rattle.matrix.proofs.Grids.{Turned}
use Rattle.lblt_pivot.proofs.by_pairs.all.Given as goal

abbrev pub invariant-loop-j : goal.invariant-loop-j
invariant-loop-j g l = Turned (lower l.y) l.first l.n (g.U.Update.column l.u l.n) l.initial.a l.j l.a

abbrev pub decreases-loop-j : goal.decreases-loop-j
decreases-loop-j g l = l.n - l.j
