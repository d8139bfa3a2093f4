-- `block` counts the rows of a block: each way out cites the law of a block with its size, or of one that breaks the rule.
use mathlib.Core.Path.{sym, ap}
use native.Mathlib.Omega.{arith}
use borrow.Author.Rules.{rules}
use Rattle.pivots.proofs.Blocks.{one_rows, two_rows, no_rows}
use Rattle.pivots.specs.inner.Found.{counted}
use Rattle.pivots.proofs.block.Goals as goal

pub returns-then-n-index_k : goal.returns-then-n-index_k
returns-then-n-index_k c = sym (ap counted (no_rows _ _ _ (λ o. omega arith) (λ t. omega arith)))

pub returns-then-index_k-k : goal.returns-then-index_k-k
returns-then-index_k-k c = sym (ap counted (no_rows _ _ _ (λ o. omega arith) (λ t. omega arith)))

pub returns-then-size_k-eq1 : goal.returns-then-size_k-eq1
returns-then-size_k-eq1 c = sym (ap counted (one_rows _ _ _ (search rules)))

pub returns-then-size_k-ne2 : goal.returns-then-size_k-ne2
returns-then-size_k-ne2 c = sym (ap counted (no_rows _ _ _ (λ o. omega arith) (λ t. omega arith)))

pub returns-then-index_k-k-2 : goal.returns-then-index_k-k-2
returns-then-index_k-k-2 c = sym (ap counted (no_rows _ _ _ (λ o. omega arith) (λ t. omega arith)))

pub returns-then-index-index_k : goal.returns-then-index-index_k
returns-then-index-index_k c = sym (ap counted (no_rows _ _ _ (λ o. omega arith) (λ t. omega arith)))

pub returns-then-size-ne2 : goal.returns-then-size-ne2
returns-then-size-ne2 c = sym (ap counted (no_rows _ _ _ (λ o. omega arith) (λ t. omega arith)))

pub returns : goal.returns
returns c = sym (ap counted (two_rows _ _ _ (search rules)))
