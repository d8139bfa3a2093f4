-- `join` meets its contract. Assumes nothing.
use native.Mathlib.Omega.{arith}
use Rattle.packing.proofs.Joining.{joining_more, joining_all}
use Rattle.packing.proofs.join.Goals as goal

pub loop-j-preserved : goal.loop-j-preserved
loop-j-preserved c = joining_more c.requires.further.small c.loop-j.invariant (omega (arith, c.loop-j-test.true)) c.join_column.ensures

pub returns : goal.returns
returns c = joining_all c.requires.further.small c.requires.further.room c.loop-j.invariant (omega (arith, c.loop-j-test.false))
