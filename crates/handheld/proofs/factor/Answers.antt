-- `factor` meets its promise. Assumes nothing.
use Rattle.handheld.proofs.ByValue.{by_value}
use Rattle.handheld.proofs.factor.Goals as goal

pub returns-then-first : goal.returns-then-first
returns-then-first c = by_value _ _ (c.by_lent.ensures _ c.of_columns.ensures) c.of_columns.ensures c.assembled.ensures

pub returns : goal.returns
returns c = by_value _ _ (rw c.lower.ensures at c.all.ensures) c.of_columns-n.ensures c.assembled-2.ensures
