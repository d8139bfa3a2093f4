-- `check` answers by its rows, then by its mark: each way out cites its law.
use native.Mathlib.Omega.{arith}
use Rattle.pivots.proofs.Checked.{row_broken, unmarked, mark_above, mark_size_broken, mark_index_broken, mark_sound}
use Rattle.pivots.proofs.Found.{some_fault, without_fault}
use Rattle.pivots.proofs.check.Goals as goal

pub returns-in-Some : goal.returns-in-Some
returns-in-Some c = let found = some_fault _ _ c.in-Some.ensures in row_broken _ _ found.0 found.1

pub returns-then-marked-eq0 : goal.returns-then-marked-eq0
returns-then-marked-eq0 c = unmarked _ _ (without_fault _ _ c.fault.ensures c.in_default.not-Some) c.mark-marked.ensures c.if-marked-eq0.true

pub returns-then-n-marked : goal.returns-then-n-marked
returns-then-n-marked c = mark_above _ _ (without_fault _ _ c.fault.ensures c.in_default.not-Some) c.mark-marked.ensures c.if-n-marked.true

pub returns-then-size-ne1 : goal.returns-then-size-ne1
returns-then-size-ne1 c =
    mark_size_broken _ _ (without_fault _ _ c.fault.ensures c.in_default.not-Some) c.mark-marked.ensures (omega arith) (omega arith) (λ e. omega (arith, e))

pub returns-then-index-marked : goal.returns-then-index-marked
returns-then-index-marked c =
    mark_index_broken _ _ (without_fault _ _ c.fault.ensures c.in_default.not-Some) c.mark-marked.ensures (omega arith) (omega arith) (λ e. omega (arith, e))

pub returns : goal.returns
returns c =
    mark_sound _ _ (without_fault _ _ c.fault.ensures c.in_default.not-Some) c.mark-marked.ensures (omega arith) (omega arith) (omega arith) (omega arith)
