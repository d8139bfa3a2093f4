-- `update1` meets its contract. Assumes nothing.
use Rattle.lblt_pivot.proofs.Updates.{updates1}
use Rattle.lblt_pivot.proofs.rank1.update1.Goals as goal

pub returns : goal.returns
returns c =
    updates1 _ _ c.get-inv.ensures c.all.ensures c.scale_all.ensures
