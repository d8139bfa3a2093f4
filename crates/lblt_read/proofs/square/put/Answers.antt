-- `put` stores one entry.
use Rattle.lblt_read.proofs.Squares.{put_square}
use Rattle.lblt_read.proofs.square.put.Goals as goal

pub returns : goal.returns
returns c = put_square _ _ _ _ _ c.requires.squared.long c.requires.i_lt_n c.requires.j_lt_n
