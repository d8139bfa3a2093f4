-- `pivot1` meets its contract. Assumes nothing.
use Rattle.lblt_pivot.proofs.Pivots.{pivots1}
use Rattle.lblt_pivot.proofs.pivot1.Goals as goal

pub returns : goal.returns
returns c =
    pivots1 _ _ _ c.bring1.ensures c.update1.ensures
