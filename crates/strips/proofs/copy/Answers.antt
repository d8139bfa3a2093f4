-- `copy` meets its contract. Assumes nothing.
use mathlib.Core.Path.{refl}
use Rattle.strips.proofs.Strips.{strip_more}
use Rattle.strips.proofs.copy.Goals as goal

pub loop-i-preserved : goal.loop-i-preserved
loop-i-preserved c = strip_more _ c.loop-i.invariant c.loop-i-test.true c.requires.to_in_bounds refl
