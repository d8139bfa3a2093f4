-- `Pair2` updates a row. Assumes nothing.
use Rattle.lblt_pivot.proofs.Pairs.{pairs2_at}
use Rattle.lblt_pivot.proofs.rank2.Pair2Pair.at.Goals as goal

pub returns : goal.returns
returns c =
    pairs2_at _ _ _ _ _ c.requires.is_before c.get-aik.ensures c.get-aik1.ensures c.get.ensures c.put.ensures c.get-2.ensures c.put-2.ensures
