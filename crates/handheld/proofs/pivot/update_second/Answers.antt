-- `update_second` meets its contract. Assumes nothing.
use Rattle.handheld.proofs.Pivots.{second_updated}
use Rattle.handheld.proofs.pivot.update_second.Goals as goal

pub returns : goal.returns
returns c = second_updated c.args.t
