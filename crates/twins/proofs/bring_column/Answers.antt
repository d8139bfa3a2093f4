-- `bring_column` meets its contract. Assumes nothing.
use Rattle.std.proofs.Common.{rules}
use Rattle.twins.proofs.Fingerprints.{bringing_first, bringing_more, bringing_all}
use Rattle.twins.proofs.bring_column.Goals as goal

pub loop-i-init : goal.loop-i-init
loop-i-init c = bringing_first c.requires.brought (search rules) c.lower_bits.ensures c.mix-own.ensures

pub loop-i-preserved : goal.loop-i-preserved
loop-i-preserved c = bringing_more c.requires.order_in_bounds c.loop-i.invariant c.loop-i-test.true c.lower_bits-bits.ensures c.mix.ensures c.mix-own-in-loop-i.ensures

pub returns : goal.returns
returns c = bringing_all c.requires.order_in_bounds c.loop-i.invariant c.loop-i-test.false
