-- `work_at` meets its contract. Assumes nothing.
use Rattle.lblt_pivot.specs.inner.Engine.{work_at}
use Rattle.lblt_pivot.proofs.rank2.work_at.Goals as goal

pub returns : goal.returns
unfolding work_at
returns c = rw (c.get.ensures, c.get-2.ensures) at c.work.ensures
