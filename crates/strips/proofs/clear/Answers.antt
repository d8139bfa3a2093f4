-- `clear` meets its contract. Assumes nothing.
use mathlib.Core.Path.{refl}
use Rattle.strips.proofs.Strips.{strip_more}
use Rattle.strips.proofs.clear.Goals as goal

pub loop-i-preserved : goal.loop-i-preserved
loop-i-preserved c = strip_more _ c.loop-i.invariant c.loop-i-test.true c.requires.at_in_bounds refl
