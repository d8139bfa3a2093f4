-- `larger` meets its contract. Assumes nothing.
use Rattle.leaf.proofs.Larger.{of_less, of_rest}
use Rattle.lblt_choice.proofs.larger.Goals as goal

pub returns-then-most-x-clause-value : goal.returns-then-most-x-clause-value
returns-then-most-x-clause-value c = of_less c.args.most c.args.x c.requires c.if-most-x.true

pub returns-clause-value : goal.returns-clause-value
returns-clause-value c = of_rest c.args.most c.args.x c.requires c.if-most-x.false
