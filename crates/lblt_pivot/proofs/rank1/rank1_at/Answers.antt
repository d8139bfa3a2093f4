-- `rank1_at` meets its contract. Assumes nothing.
use Rattle.lblt_pivot.specs.Update.{rank1_at}
use Rattle.lblt_pivot.proofs.rank1.rank1_at.Goals as goal

pub returns : goal.returns
unfolding rank1_at
returns c =
    rw (c.get.ensures, c.get-2.ensures) at c.put.ensures
