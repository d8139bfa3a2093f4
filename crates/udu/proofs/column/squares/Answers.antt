-- `squares` meets its contract. Assumes nothing.
use Rattle.std.proofs.Common.{refl, arith}
use Rattle.matrix.proofs.Loops.{ran_none, ran_more, ran_all}
use Rattle.udu.specs.Columns.{square_sum}
use Rattle.udu.proofs.column.squares.Goals as goal

pub loop-k-init : goal.loop-k-init
loop-k-init c = ran_none (omega arith)

pub loop-k-preserved : goal.loop-k-preserved
loop-k-preserved c = ran_more c.loop-k.invariant c.loop-k-test.true refl

pub returns : goal.returns
unfolding square_sum
returns c = ran_all c.loop-k.invariant c.loop-k-test.false
