-- `divide` meets its contract. Assumes nothing.
use Rattle.strips.proofs.Strips.{strip_more, strip_ahead}
use Rattle.udu.proofs.column.divide.Goals as goal

pub loop-i-preserved : goal.loop-i-preserved
loop-i-preserved c = strip_more _ c.loop-i.invariant c.loop-i-test.true c.requires.at_in_bounds_2 (rw (strip_ahead c.loop-i.invariant))
