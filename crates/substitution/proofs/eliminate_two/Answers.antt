-- `eliminate_two` takes columns k and k + 1 of the factor, times their rows, from the rows below.
use Rattle.std.proofs.Common.{arith}
use Rattle.substitution.proofs.Sweeps.{sweeping_none, sweep_two, swept_two}
use Rattle.substitution.proofs.eliminate_two.Goals as goal

pub loop-i-init : goal.loop-i-init
loop-i-init g c = sweeping_none c.requires.sides.long

pub returns : goal.returns
returns g c = swept_two _ _ _ _ c.start-start.ensures (omega (arith, c.loop-i.auto, c.loop-i-test.false, c.requires.k_bound)) _ c.start-next.ensures c.loop-i.invariant

pub loop-i-preserved : goal.loop-i-preserved
loop-i-preserved g c =
    sweep_two _ _ _ _ c.loop-i.invariant c.loop-i.auto.i c.of-x.ensures c.of-z.ensures c.of.ensures c.less-once.ensures c.less.ensures c.put.auto.b c.put.ensures
