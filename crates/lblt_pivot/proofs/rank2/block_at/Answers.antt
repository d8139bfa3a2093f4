-- `block_at` meets its contract. Assumes nothing.
use Rattle.lblt_pivot.proofs.Updates.{blocks}
use Rattle.lblt_pivot.proofs.rank2.block_at.Goals as goal

pub returns : goal.returns
returns c = blocks _ _ c.get-d21.ensures c.abs-d.ensures c.get.ensures c.get-2.ensures
