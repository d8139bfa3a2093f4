-- `work` meets its contract. Assumes nothing.
use Rattle.lblt_pivot.specs.Update.{work1, work2}
use Rattle.lblt_pivot.specs.inner.Engine.{work_by}
use Rattle.lblt_pivot.proofs.rank2.Block.work.Goals as goal

pub returns : goal.returns
unfolding work_by work1 work2
returns c =
    rw c.multiplier-multiplier.ensures
