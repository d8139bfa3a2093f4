-- `fault` finds the first row that breaks the rule: before each block the answer is still the answer from k on.
use native.Mathlib.Omega.{arith}
use mathlib.Core.Path.{refl}
use Rattle.pivots.proofs.Faults.{going_none, going_more, going_all, going_stop, rows_within}
use Rattle.pivots.proofs.Found.{some_rows, without_rows, finds_fault, finds_none}
use Rattle.pivots.proofs.fault.Goals as goal

pub loop-k-init : goal.loop-k-init
loop-k-init c = going_none _ _

pub overflow_add-k : goal.overflow_add-k
overflow_add-k c = let rows = some_rows _ _ _ c.in-Some.ensures in omega (arith, rows_within _ _ c.if-n-k.false rows.0 rows.1)

pub loop-k-preserved : goal.loop-k-preserved
loop-k-preserved c = let rows = some_rows _ _ _ c.in-Some.ensures in going_more c.loop-k.invariant c.if-n-k.false rows.0 rows.1

pub returns-then-n-k : goal.returns-then-n-k
returns-then-n-k c = finds_none _ _ (going_all c.loop-k.invariant c.if-n-k.true)

pub returns-in_default : goal.returns-in_default
returns-in_default c =
    finds_fault _ _ (going_stop c.loop-k.invariant c.if-n-k.false refl (without_rows _ _ _ c.block.ensures c.in_default.not-Some)) c.if-n-k.false
