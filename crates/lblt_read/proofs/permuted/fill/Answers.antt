-- `fill` puts the identity, then goes through the blocks.
use Rattle.std.proofs.Common.{ap}
use Rattle.pivots.specs.Blocks.{forwards}
use Rattle.lblt_read.specs.Permuted.{l_permuted_of}
use Rattle.lblt_read.proofs.Squares.{fills_as}
use Rattle.lblt_read.proofs.permuted.fill.Goals as goal

pub returns : goal.returns
unfolding l_permuted_of
returns c = fills_as c.permute_blocks.ensures (ap (forwards _ _ _) c.put_identity.ensures.cells)
