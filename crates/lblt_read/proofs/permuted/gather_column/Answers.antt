-- `gather_column` adds the later columns to column k, one after the other.
use Rattle.std.proofs.Common.{arith}
use Rattle.substitution.proofs.Offsets.{offset_small, offset_within}
use Rattle.lblt_read.proofs.Gathers.{adding_none, adding_more, adding_all}
use Rattle.lblt_read.proofs.permuted.gather_column.Goals as goal

pub loop-i-init : goal.loop-i-init
loop-i-init c = adding_none c.requires.from_le_order

pub overflow_add-s : goal.overflow_add-s
overflow_add-s c = omega (arith, offset_small _ _ _ _ c.start-start.ensures (omega arith) c.requires.laid)

pub offset_bounds-a-i : goal.offset_bounds-a-i
offset_bounds-a-i c = omega (arith, offset_small _ _ _ _ c.start-start.ensures (omega arith) c.requires.laid)

pub bounds-a-i : goal.bounds-a-i
bounds-a-i c = offset_within _ _ _ _ _ c.start-start.ensures (omega arith) c.loop-i-test.true c.requires.laid

pub loop-i-preserved : goal.loop-i-preserved
loop-i-preserved c = adding_more c.loop-i.invariant c.requires.squared.long c.requires.k_lt_from c.loop-i-test.true c.axpy.ensures

pub returns : goal.returns
returns c = adding_all _ _ _ _ _ c.start-start.ensures c.requires.k_lt_from c.requires.from_le_order _ c.loop-i.invariant c.loop-i-test.false c.requires.squared.long
