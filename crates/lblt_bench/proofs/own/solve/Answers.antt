-- `solve` goes over the columns, step by step.
use Rattle.std.proofs.Common.{arith}
use Rattle.matrix.specs.Columns.{each_chosen}
use Rattle.matrix.proofs.Turning.{turning_none, turning_all}
use Rattle.lblt_bench.proofs.Stretches.{gone_on}
use Rattle.lblt_bench.proofs.own.solve.Goals as goal

pub loop-j-init : goal.loop-j-init
loop-j-init c = turning_none (omega arith)

pub loop-j-preserved : goal.loop-j-preserved
loop-j-preserved c = gone_on c.loop-j.invariant c.solve_from-j.ensures c.solve_from-j.auto.b

pub returns : goal.returns
unfolding each_chosen
returns c = turning_all c.loop-j.invariant c.loop-j-test.false
