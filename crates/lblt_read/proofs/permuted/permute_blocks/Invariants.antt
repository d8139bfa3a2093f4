-- The blocks one after the other.
use Rattle.std.proofs.Common.{◌≡◌, ◌-◌, length}
use Rattle.matrix.specs.Grid.{load}
use Rattle.matrix.specs.Layouts.{lower, square}
use Rattle.pivots.proofs.Walks.{Along}
use Rattle.lblt_read.specs.Permuted.{permuted_block}
use Rattle.lblt_read.proofs.permuted.permute_blocks.Given as goal

abbrev pub invariant-loop-k : goal.invariant-loop-k
invariant-loop-k l = record {
  along : Along l.y.order l.words (permuted_block l.y.order (load (lower l.y) l.a) l.words) (load (square l.y.order) l.initial.l) l.k (load (square l.y.order) l.l);
  long : length l.l ≡ length l.initial.l;
}

abbrev pub decreases-loop-k : goal.decreases-loop-k
decreases-loop-k l = l.y.order - l.k
