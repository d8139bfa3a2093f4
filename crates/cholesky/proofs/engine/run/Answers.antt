-- `engine::run` meets its contract. Assumes nothing.
use Rattle.std.proofs.Common.{arith}
use Rattle.cholesky.proofs.Running.{running_none, running_small, running_more, running_refused, running_all}
use Rattle.cholesky.proofs.engine.run.Goals as goal

pub loop-j-init : goal.loop-j-init
loop-j-init c = running_none c.requires.laid.sound

pub overflow_add-used : goal.overflow_add-used
overflow_add-used c =
    let small = running_small c.loop-j-test.true c.loop-j.invariant c.in-Ok.ensures in
    omega (arith, c.requires.laid.roomy.ordered, c.requires.laid.roomy.small)

pub returns-in-Err : goal.returns-in-Err
returns-in-Err c = running_refused c.loop-j-test.true c.loop-j.invariant c.in-Err.ensures

pub loop-j-preserved : goal.loop-j-preserved
loop-j-preserved c = running_more c.loop-j-test.true c.loop-j.invariant c.in-Ok.ensures

pub returns : goal.returns
returns c = running_all c.loop-j.invariant (omega arith)
