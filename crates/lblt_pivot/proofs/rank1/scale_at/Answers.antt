-- `scale_at` meets its contract. Assumes nothing.
use Rattle.lblt_pivot.specs.Update.{scale_at}
use Rattle.lblt_pivot.proofs.rank1.scale_at.Goals as goal

pub returns : goal.returns
unfolding scale_at
returns c = rw c.get.ensures at c.put.ensures
