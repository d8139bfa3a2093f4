-- `put_identity` puts zeros, then ones on the diagonal.
use Rattle.std.proofs.Common.{◌∙◌, ap, arith}
use Rattle.matrix.specs.Loop.{for}
use Rattle.matrix.proofs.Squares.{square_sound, fills_holds}
use Rattle.matrix.proofs.Grids.{turned_none, turned_more, turned_all, holds_as}
use Rattle.lblt_read.proofs.Entrywise.{put_one, identity_loop}
use Rattle.lblt_read.proofs.square.put_identity.Goals as goal

pub loop-k-init : goal.loop-k-init
loop-k-init c = turned_none (square_sound _ _ c.clear.ensures.long) (omega arith)

pub loop-k-preserved : goal.loop-k-preserved
loop-k-preserved c = turned_more c.loop-k.invariant c.loop-k-test.true c.put.ensures

pub returns : goal.returns
returns c = fills_holds (holds_as (turned_all c.loop-k.invariant c.loop-k-test.false) (ap (for 0 _ put_one) c.clear.ensures.cells ∙ identity_loop _))
