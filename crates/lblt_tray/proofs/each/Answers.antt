-- `each`: item by item.
use Rattle.lblt_tray.proofs.Items.{more_before}
use Rattle.lblt_tray.proofs.each.Goals as goal

pub loop-t-preserved : goal.loop-t-preserved
loop-t-preserved c = more_before c.loop-t.invariant c.item_at.ensures
