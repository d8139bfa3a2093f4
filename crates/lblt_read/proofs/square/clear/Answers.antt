-- `clear` puts zero everywhere.
use Rattle.strips.proofs.Strips.{cleared_square}
use Rattle.lblt_read.proofs.square.clear.Goals as goal

pub returns : goal.returns
returns c = cleared_square c.requires.long c.clear.ensures
