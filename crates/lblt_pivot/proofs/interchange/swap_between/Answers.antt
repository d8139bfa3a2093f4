-- `swap_between` meets its contract. Assumes nothing.
use Rattle.matrix.proofs.Grids.{turned_none, turned_more}
use native.Mathlib.Omega.{arith}
use Rattle.lblt_pivot.specs.Interchange.{swap_between}
use Rattle.lblt_pivot.proofs.interchange.swap_between.Goals as goal

pub loop-j-init : goal.loop-j-init
loop-j-init c = turned_none c.requires.laid.sound (omega arith)

pub loop-j-preserved : goal.loop-j-preserved
unfolding swap_between
loop-j-preserved c =
    turned_more c.loop-j.invariant c.loop-j-test.true c.swap.ensures
