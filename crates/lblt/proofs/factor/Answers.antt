-- `factor` meets its promise. Assumes nothing.
use Rattle.lblt.proofs.factor.Goals as goal

pub returns : goal.returns
returns c = rw c.full.ensures at c.factor_on.ensures
