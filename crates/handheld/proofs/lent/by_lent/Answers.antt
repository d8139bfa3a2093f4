-- `by_lent` meets its contract. Assumes nothing.
use Rattle.handheld.proofs.ByValue.{lent_comes_as}
use Rattle.handheld.proofs.lent.by_lent.Goals as goal

pub returns : goal.returns
returns c = lent_comes_as _ c.factor.ensures c.args.matrix c.of_columns-n.ensures
