-- `fill` puts zeros, then the diagonal blocks.
use Rattle.std.proofs.Common.{ap}
use Rattle.pivots.specs.Blocks.{forwards}
use Rattle.lblt_read.specs.Diagonal.{d_of}
use Rattle.lblt_read.proofs.Squares.{fills_as}
use Rattle.lblt_read.proofs.diagonal.fill.Goals as goal

pub returns : goal.returns
unfolding d_of
returns c = fills_as c.put_blocks.ensures (ap (forwards _ _ _) c.clear.ensures.cells)
