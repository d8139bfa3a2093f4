-- `bring2` meets its contract. Assumes nothing.
use Rattle.lblt_pivot.proofs.Interchanges.{in_place2, brings2}
use Rattle.lblt_pivot.proofs.interchange.bring2.Goals as goal

pub returns-then-p-k : goal.returns-then-p-k
returns-then-p-k c = in_place2 _ _ _ c.if-p-k.true c.requires.laid.sound

pub returns : goal.returns
returns c =
    brings2 _ _ _ c.if-p-k.false c.interchange.ensures c.swap.ensures
