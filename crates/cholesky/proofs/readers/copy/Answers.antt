-- `readers::copy` meets its contract. Assumes nothing.
use Rattle.cholesky.proofs.ReaderLoops.{filling_more, filling_all}
use Rattle.cholesky.proofs.readers.copy.Goals as goal

pub loop-j-preserved : goal.loop-j-preserved
loop-j-preserved c =
    filling_more c.loop-j.invariant c.loop-j-test.true c.copy_column.ensures

pub returns : goal.returns
returns c = filling_all c.loop-j.invariant c.loop-j-test.false
