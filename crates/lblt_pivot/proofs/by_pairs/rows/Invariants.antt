-- `by_pairs::rows`: the first row, then the others.
use Rattle.matrix.specs.Layouts.{lower}
use Rattle.matrix.proofs.Grids.{Turned}
use Rattle.lblt_pivot.proofs.by_pairs.rows.Given as goal

abbrev pub invariant-loop-i : goal.invariant-loop-i
invariant-loop-i g l = Turned (lower l.y) l.first l.y.order (g.P.Pair.change l.pair l.j) l.initial.a l.i l.a
