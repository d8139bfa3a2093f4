-- Twin rows p < q, said of the lower part alone. Assumes nothing.
use Rattle.std.proofs.Common.{◌≡◌, ℕ, ◌<◌, ◌≤◌, sym, ◌∙◌, arith, le-leb}
use borrow.Author.Tests.{lt-leb}
use Rattle.matrix.specs.Matrix.{Matrix}
use Rattle.twins.specs.Twins.{symmetric, Twins}

pub record Lower (n : ℕ) (M : Matrix) (p q : ℕ) : Type 0 where
  pub left : (k : ℕ) → k ≤ p → M q k ≡ M p k
  pub between : (k : ℕ) → p < k → k < q → M q k ≡ M k p
  pub diagonal : M q q ≡ M p p
  pub below : (k : ℕ) → q < k → k < n → M k q ≡ M k p

pub at_lower : (M : Matrix) (i j : ℕ) → j ≤ i → symmetric M i j ≡ M i j
unfolding symmetric
at_lower M i j h = rw (le-leb j i h)

pub at_upper : (M : Matrix) (i j : ℕ) → i < j → symmetric M i j ≡ M j i
unfolding symmetric
at_upper M i j h = rw (lt-leb j i h)

pub lower_of_twins : (n : ℕ) (M : Matrix) (p q : ℕ) → p < q → q < n → Twins n M p q → Lower n M p q
lower_of_twins n M p q apart within twins = record {
  left = λ k h. sym (at_lower M q k (omega arith)) ∙ twins k (omega arith) ∙ at_lower M p k h;
  between = λ k h h'. sym (at_lower M q k (omega arith)) ∙ twins k (omega arith) ∙ at_upper M p k h;
  diagonal = sym (at_lower M q q (omega arith)) ∙ twins q within ∙ at_upper M p q apart ∙ sym (at_lower M q p (omega arith)) ∙ twins p (omega arith) ∙ at_lower M p p (omega arith);
  below = λ k h h'. sym (at_upper M q k h) ∙ twins k h' ∙ at_upper M p k (omega arith);
}
