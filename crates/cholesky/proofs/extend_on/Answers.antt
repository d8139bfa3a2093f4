-- `extend_on` meets its contract: 0 is a floor that fails. Assumes nothing.
use mathlib.Core.Path.{refl}
use lib.Ieee.{lt, of_bits}
use Rattle.cholesky.proofs.FlooredPromises.{floored_plain}
use Rattle.cholesky.proofs.extend_on.Goals as goal

pub returns : goal.returns
unfolding lt of_bits
returns c = floored_plain refl c.extend_within-floored.ensures
