-- `rank2_column` meets its contract. Assumes nothing.
use Rattle.matrix.proofs.Grids.{Turned}
use Rattle.matrix.specs.Layouts.{lower}
use Rattle.lblt_pivot.specs.inner.Engine.{worked_at}
use Rattle.lblt_pivot.proofs.rank2.rank2_column.Given as goal

abbrev pub invariant-loop-i : goal.invariant-loop-i
invariant-loop-i l = Turned (lower l.y) l.j l.n (worked_at l.k l.j l.w) l.initial.a l.i l.a
