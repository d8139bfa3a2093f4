-- The blocks one after the other.
use Rattle.std.proofs.Common.{◌≡◌, ◌-◌, length}
use Rattle.matrix.specs.Grid.{load}
use Rattle.matrix.specs.Layouts.{lower, square}
use Rattle.pivots.proofs.Walks.{Along}
use Rattle.lblt_read.specs.Diagonal.{diagonal_block}
use Rattle.lblt_read.proofs.diagonal.put_blocks.Given as goal

abbrev pub invariant-loop-k : goal.invariant-loop-k
invariant-loop-k l = record {
  along : Along l.y.order l.words (diagonal_block (load (lower l.y) l.a) l.words) (load (square l.y.order) l.initial.d) l.k (load (square l.y.order) l.d);
  long : length l.d ≡ length l.initial.d;
}

abbrev pub decreases-loop-k : goal.decreases-loop-k
decreases-loop-k l = l.y.order - l.k
