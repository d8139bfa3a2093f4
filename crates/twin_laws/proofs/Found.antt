-- A pair that `first_twin` or `first_twin_since` finds meets the hypotheses of the theorems on each factor. Assumes nothing.
use mathlib.Core.Path.{◌≡◌, sym, ◌∙◌}
use Prim.Native.Nat.{ℕ, ◌≤◌, ◌<◌}
use native.Mathlib.Omega.{arith}
use Rattle.matrix.specs.Matrix.{Matrix}
use Rattle.twins.specs.First.{FirstPair}
use Rattle.twins.proofs.Clauses.{Lower, lower_of_twins}
use Rattle.twin_laws.proofs.Lblt.{Paired}

module _ (n : ℕ) (M : Matrix) (m p q : ℕ) (found : FirstPair n M m p q) where
  pub found_lower : Lower n M p q
  found_lower = lower_of_twins n M p q found.apart found.within found.twins

  -- Cholesky
  pub found_left : (k : ℕ) → k ≤ p → M q k ≡ M p k
  found_left = found_lower.left

  pub found_diagonal : M q q ≡ M p p
  found_diagonal = found_lower.diagonal

  pub found_mirrored : (k : ℕ) → p < k → k < q → M q k ≡ M k p
  found_mirrored = found_lower.between

  -- LBLT
  pub found_paired : Paired n M p q
  found_paired = record { left = found_lower.left; diagonal = found_lower.diagonal; below = found_lower.below }

  -- UDU, where P is the upper part of the same symmetric matrix
  pub found_upper : (P : Matrix) → ((i j : ℕ) → i ≤ j → j < n → P i j ≡ M j i) → (c : ℕ) → q < c → c < n → P p c ≡ P q c
  found_upper P mirror c after within =
      let apart : p < q = found.apart in
      mirror p c (omega arith) within ∙ sym (found_lower.below c after within) ∙ sym (mirror q c (omega arith) within)
