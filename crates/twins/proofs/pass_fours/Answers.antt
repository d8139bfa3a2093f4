-- `pass_fours` meets its contract. Assumes nothing.
use Rattle.twins.proofs.Fingerprints.{passed_four}
use Rattle.twins.proofs.pass_fours.Goals as goal

pub loop-t-preserved : goal.loop-t-preserved
loop-t-preserved c = passed_four c.loop-t.invariant c.loop-t-test.true c.requires (rw c.if-contains.false at c.contains.ensures.cases)
