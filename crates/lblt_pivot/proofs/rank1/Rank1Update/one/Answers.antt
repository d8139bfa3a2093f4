-- `Rank1` updates a column. Assumes nothing.
use native.Mathlib.Omega.{arith}
use Rattle.matrix.proofs.Grids.{turned_none, turned_more, turned_all}
use Rattle.lblt_pivot.proofs.Updates.{updates_column}
use Rattle.lblt_pivot.proofs.rank1.Rank1Update.one.Goals as goal

pub loop-i-init : goal.loop-i-init
loop-i-init c = turned_none c.requires.laid.sound (omega arith)

pub loop-i-preserved : goal.loop-i-preserved
loop-i-preserved c = turned_more c.loop-i.invariant c.loop-i-test.true c.rank1_at.ensures

pub returns : goal.returns
returns c = updates_column _ _ _ _ c.get-ajk.ensures (turned_all c.loop-i.invariant c.loop-i-test.false)
