-- `rank2_at` meets its contract. Assumes nothing.
use Rattle.lblt_pivot.specs.Update.{rank2_at}
use Rattle.lblt_pivot.proofs.rank2.rank2_at.Goals as goal

pub returns : goal.returns
unfolding rank2_at
returns c =
    rw (c.get.ensures, c.get-2.ensures, c.get-3.ensures) at c.put.ensures
