-- `crosses` meets its contract. Assumes nothing.
use Rattle.std.proofs.Common.{arith}
use Rattle.udu.proofs.Crossing.{crossing_none, crossing_more, crossing_at, crossing_all}
use Rattle.udu.proofs.column.crosses.Goals as goal
use Rattle.udu.proofs.column.crosses.Goals.{else-loop-k-test, then-loop-k-test+else-others-k-gt4}

pub loop-k-init : goal.loop-k-init
loop-k-init c = record { upto = omega arith; fours = omega arith; crossing = crossing_none c.requires.j_lt_n }

pub loop-k-preserved : goal.loop-k-preserved
loop-k-preserved c =
    let fours = c.loop-k.invariant.fours in
    record { upto = omega arith; fours = omega arith; crossing = crossing_more c.loop-k.invariant.crossing c.requires.u_len (omega arith) c.add.ensures }

pub loop-k-2-init : goal.loop-k-2-init
loop-k-2-init c =
    let upto = c.loop-k.invariant.upto in
    let fours = c.loop-k.invariant.fours in
    elim c.loop-k-test.branch [
      | else-loop-k-test w ↦ crossing_at (omega arith) w.u-is c.loop-k.invariant.crossing
      | then-loop-k-test+else-others-k-gt4 w ↦ crossing_at (omega arith) w.u-is (crossing_more c.loop-k.invariant.crossing c.requires.u_len (omega arith) w.add.ensures)
    ]

pub loop-k-2-preserved : goal.loop-k-2-preserved
loop-k-2-preserved c = crossing_more c.loop-k-2.invariant c.requires.u_len (omega arith) c.add-in-loop-k-2.ensures

pub returns : goal.returns
returns c = crossing_all c.loop-k-2.invariant (omega arith) c.requires.j_lt_n c.requires.zeros
