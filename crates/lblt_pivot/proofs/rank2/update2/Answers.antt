-- `update2` meets its contract. Assumes nothing.
use Rattle.lblt_pivot.proofs.Updates.{updates2}
use Rattle.lblt_pivot.proofs.rank2.update2.Goals as goal

pub returns : goal.returns
returns c =
    updates2 _ _ c.block_at-b.ensures c.all.ensures
