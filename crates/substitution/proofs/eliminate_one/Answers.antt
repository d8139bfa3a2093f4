-- `eliminate_one` takes column k of the factor, times row k, from the rows below.
use Rattle.std.proofs.Common.{arith}
use Rattle.substitution.proofs.Sweeps.{sweeping_none, sweep_one, swept_one}
use Rattle.substitution.proofs.eliminate_one.Goals as goal

pub loop-i-init : goal.loop-i-init
loop-i-init g c = sweeping_none c.requires.sides.long

pub returns : goal.returns
returns g c = swept_one _ _ _ _ c.start-start.ensures (omega (arith, c.loop-i.auto, c.loop-i-test.false, c.requires.k_lt_order)) c.loop-i.invariant

pub loop-i-preserved : goal.loop-i-preserved
loop-i-preserved g c =
    sweep_one _ _ _ c.loop-i.invariant c.loop-i.auto.i c.of-x.ensures c.of.ensures c.less.ensures c.put.auto.b c.put.ensures
