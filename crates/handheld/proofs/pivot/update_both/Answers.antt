-- `update_both` meets its contract. Assumes nothing.
use Rattle.handheld.proofs.Pivots.{both_updated}
use Rattle.handheld.proofs.pivot.update_both.Goals as goal

pub returns : goal.returns
returns c = both_updated c.args.t c.abs-d.ensures c.work-w.ensures
