-- `pivot2` meets its contract. Assumes nothing.
use Rattle.lblt_pivot.proofs.Pivots.{pivots2}
use Rattle.lblt_pivot.proofs.pivot2.Goals as goal

pub returns : goal.returns
returns c =
    pivots2 _ _ _ c.bring2.ensures c.update2.ensures
