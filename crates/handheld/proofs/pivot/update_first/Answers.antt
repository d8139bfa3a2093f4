-- `update_first` meets its contract. Assumes nothing.
use Rattle.handheld.proofs.Pivots.{first_updated}
use Rattle.handheld.proofs.pivot.update_first.Goals as goal

pub returns : goal.returns
returns c = first_updated c.args.t
