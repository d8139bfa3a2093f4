-- `rank2_column` meets its contract. Assumes nothing.
use Rattle.matrix.proofs.Grids.{turned_none, turned_more}
use native.Mathlib.Omega.{arith}
use Rattle.lblt_pivot.proofs.rank2.rank2_column.Goals as goal

pub loop-i-init : goal.loop-i-init
loop-i-init c = turned_none c.requires.laid.sound (omega arith)

pub loop-i-preserved : goal.loop-i-preserved
loop-i-preserved c =
    turned_more c.loop-i.invariant c.loop-i-test.true c.rank2_at.ensures
