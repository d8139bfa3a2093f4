-- `put_side`: three stores.
use Rattle.lblt_tray.proofs.ThreeRows.{side_put}
use Rattle.lblt_tray.proofs.three.put_side.Goals as goal

pub returns : goal.returns
returns c = side_put c.args.b.now c.args.s c.requires
