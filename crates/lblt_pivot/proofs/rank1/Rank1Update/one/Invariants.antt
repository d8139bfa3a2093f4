-- `Rank1` updates a column. Assumes nothing.
use Rattle.matrix.proofs.Grids.{Turned}
use Rattle.matrix.specs.Layouts.{lower}
use Rattle.lblt_pivot.specs.Update.{rank1_at}
use Rattle.lblt_pivot.proofs.rank1.Rank1Update.one.Given as goal

abbrev pub invariant-loop-i : goal.invariant-loop-i
invariant-loop-i l = Turned (lower l.y) l.j l.y.order (rank1_at l.self.k l.j l.self.inv l.ajk) l.initial.a l.i l.a
