-- `Pair1` updates a row. Assumes nothing.
use Rattle.lblt_pivot.proofs.Pairs.{pairs1_at}
use Rattle.lblt_pivot.proofs.rank1.Pair1Pair.at.Goals as goal

pub returns : goal.returns
returns c = pairs1_at _ _ _ _ _ _ c.requires.is_before c.get.ensures c.get-2.ensures c.put.ensures c.get-3.ensures c.put-2.ensures
