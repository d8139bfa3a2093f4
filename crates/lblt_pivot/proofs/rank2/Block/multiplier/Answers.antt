-- `multiplier` meets its contract. Assumes nothing.
use mathlib.Core.Path.{refl}
use Rattle.lblt_pivot.specs.Update.{multiplier}
use Rattle.lblt_pivot.proofs.rank2.Block.multiplier.Goals as goal

pub returns : goal.returns
unfolding multiplier
returns c = refl
