-- `interchange` meets its contract. Assumes nothing.
use Rattle.lblt_pivot.proofs.Interchanges.{interchanges}
use Rattle.lblt_pivot.proofs.interchange.interchange.Goals as goal

pub returns : goal.returns
returns c =
    interchanges _ _ _ c.swap_below.ensures c.swap_between.ensures c.swap.ensures
