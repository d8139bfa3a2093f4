-- `choose_second` meets its contract. Assumes nothing.
use Rattle.handheld.proofs.Choices.{second}
use Rattle.handheld.proofs.choice.choose_second.Goals as goal

pub returns : goal.returns
returns c = second c.args.t c.abs-one.ensures c.maximum-rowmax.ensures c.abs.ensures c.choose_by.ensures
