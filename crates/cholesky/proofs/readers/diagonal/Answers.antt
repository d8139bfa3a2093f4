-- `readers::diagonal` meets its contract. Assumes nothing.
use mathlib.Core.Path.{ap}
use native.Mathlib.Omega.{arith}
use Rattle.matrix.proofs.Loops.{ran_none, ran_more, ran_all}
use Rattle.matrix.specs.Rounded.{◌⊗◌}
use Rattle.cholesky.specs.Readers.{times, product_of}
use Rattle.cholesky.proofs.readers.diagonal.Goals as goal

pub loop-i-init : goal.loop-i-init
loop-i-init c = ran_none (omega arith)

pub loop-i-preserved : goal.loop-i-preserved
unfolding times
loop-i-preserved c = ran_more c.loop-i.invariant c.loop-i-test.true (ap (◌⊗◌ c.loop-i.product) c.get-product.ensures)

pub returns : goal.returns
unfolding product_of
returns c = ran_all c.loop-i.invariant c.loop-i-test.false
