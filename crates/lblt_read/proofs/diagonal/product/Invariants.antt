-- `product` multiplies the blocks' determinants from 1.
use Rattle.std.proofs.Common.{◌-◌}
use Rattle.matrix.specs.Grid.{load}
use Rattle.matrix.specs.Layouts.{lower}
use Rattle.pivots.proofs.Walks.{Along}
use Rattle.lblt_read.specs.Diagonal.{times_block}
use Rattle.lblt_read.proofs.diagonal.product.Given as goal

abbrev pub invariant-loop-k : goal.invariant-loop-k
invariant-loop-k l = Along l.y.order l.words (times_block (load (lower l.y) l.a) l.words) l.initial.x l.k l.x

abbrev pub decreases-loop-k : goal.decreases-loop-k
decreases-loop-k l = l.y.order - l.k
