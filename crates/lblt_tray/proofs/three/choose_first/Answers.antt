-- `choose_first`: by the larger of two magnitudes.
use Rattle.lblt_tray.proofs.ThreeRows.{first_chosen}
use Rattle.lblt_tray.proofs.three.choose_first.Goals as goal

pub returns : goal.returns
returns c = first_chosen c.args.t c.abs-4.ensures c.abs.ensures c.abs-2.ensures c.abs-3.ensures c.top_of-top.ensures c.maximum.ensures c.maximum-rowmax.ensures c.choose_by.ensures
