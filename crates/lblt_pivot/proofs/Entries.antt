-- The update by a pivot of size 1, entry by entry. Assumes nothing.
use mathlib.Core.Path.{◌≡◌, ◌∙◌, ap}
use Prim.Native.Nat.{ℕ, ◌+◌, ◌≤◌, ◌<◌}
use native.Mathlib.Omega.{arith}
use lib.Ieee.{Float, neg}
use Rattle.matrix.specs.Matrix.{Matrix}
use Rattle.matrix.specs.Loop.{for}
use Rattle.matrix.specs.Rounded.{◌⊕◌, ◌⊗◌, ◌⊘◌, one}
use Rattle.matrix.proofs.Loops.{for_still, for_at}
use Rattle.matrix.proofs.Stores.{column_other, row_other, row_here}
use Rattle.lblt_pivot.specs.Update.{rank1_at, rank1, scale_at, eliminate1, update1}

-- N is M after the update by the pivot (k, k): every entry
pub record Updated1 (n k : ℕ) (M N : Matrix) : Type 0 where
  -- a(i,j) + (a(i,k)·(−inv))·a(j,k)
  pub trailing : (i j : ℕ) → k < j → j ≤ i → i < n → N i j ≡ M i j ⊕ M i k ⊗ neg (one ⊘ M k k) ⊗ M j k
  -- column k times inv
  pub column : (i : ℕ) → k < i → i < n → N i k ≡ M i k ⊗ (one ⊘ M k k)
  pub pivot : N k k ≡ M k k
  pub earlier : (i j : ℕ) → j < k → N i j ≡ M i j

-- ---- the update of the columns after k

module _ (n k : ℕ) (inv : Float) where
  abbrev updated : ℕ → Float → ℕ → Matrix → Float
  updated j ajk i M = M i j ⊕ M i k ⊗ neg inv ⊗ ajk

  pub rank1_other : (j : ℕ) (M : Matrix) (r c : ℕ) → (c ≡ j → ⊥) → rank1 n k inv j M r c ≡ M r c
  unfolding rank1 rank1_at
  rank1_other j M r c apart = column_other j (updated j (M j k)) j n M r c apart

  rank1_here : (j : ℕ) (M : Matrix) (r : ℕ) → k < j → j ≤ r → r < n → rank1 n k inv j M r j ≡ M r j ⊕ M r k ⊗ neg inv ⊗ M j k
  unfolding rank1 rank1_at
  rank1_here j M r after from upto =
      row_here j (updated j (M j k)) j n M r from upto
      ∙ rw (row_other j (updated j (M j k)) j r M r j (omega arith), column_other j (updated j (M j k)) j r M r k (omega arith))

  ranked_other : (lo hi : ℕ) (M : Matrix) (r c : ℕ) → ((j : ℕ) → lo ≤ j → j < hi → c ≡ j → ⊥) → for lo hi (rank1 n k inv) M r c ≡ M r c
  ranked_other lo hi M r c apart = for_still (λ (N : Matrix). N r c) lo hi (rank1 n k inv) M (λ j N from upto. rank1_other j N r c (apart j from upto))

  ranked_here : (M : Matrix) (r j : ℕ) → k < j → j ≤ r → r < n → for (k + 1) n (rank1 n k inv) M r j ≡ M r j ⊕ M r k ⊗ neg inv ⊗ M j k
  ranked_here M r j after from upto =
      ap (λ (N : Matrix). N r j) (for_at (k + 1) n j (rank1 n k inv) M (omega arith) (omega arith))
      ∙ ranked_other (j + 1) n (rank1 n k inv j (for (k + 1) j (rank1 n k inv) M)) r j (omega arith)
      ∙ rank1_here j (for (k + 1) j (rank1 n k inv) M) r after from upto
      ∙ rw (ranked_other (k + 1) j M r j (omega arith), ranked_other (k + 1) j M r k (omega arith), ranked_other (k + 1) j M j k (omega arith))

  -- ---- column k

  abbrev times : ℕ → Matrix → Float
  times i M = M i k ⊗ inv

  scaled_other : (M : Matrix) (r c : ℕ) → (c ≡ k → ⊥) → for (k + 1) n (scale_at k inv) M r c ≡ M r c
  unfolding scale_at
  scaled_other M r c apart = column_other k times (k + 1) n M r c apart

  scaled_pivot : (M : Matrix) → for (k + 1) n (scale_at k inv) M k k ≡ M k k
  unfolding scale_at
  scaled_pivot M = row_other k times (k + 1) n M k k (omega arith)

  scaled_here : (M : Matrix) (r : ℕ) → k < r → r < n → for (k + 1) n (scale_at k inv) M r k ≡ M r k ⊗ inv
  unfolding scale_at
  scaled_here M r after upto =
      row_here k times (k + 1) n M r (omega arith) upto
      ∙ ap (λ (x : Float). x ⊗ inv) (row_other k times (k + 1) r M r k (omega arith))

-- ---- all

pub updated1 : (n k : ℕ) (M : Matrix) → Updated1 n k M (update1 n k M)
unfolding update1 eliminate1
updated1 n k M = record {
  trailing = λ i j after from upto. scaled_other n k inv N i j (omega arith) ∙ ranked_here n k inv M i j after from upto;
  column = λ i after upto. scaled_here n k inv N i after upto ∙ ap (λ (x : Float). x ⊗ inv) (ranked_other n k inv (k + 1) n M i k (omega arith));
  pivot = scaled_pivot n k inv N ∙ ranked_other n k inv (k + 1) n M k k (omega arith);
  earlier = λ i j before. scaled_other n k inv N i j (omega arith) ∙ ranked_other n k inv (k + 1) n M i j (omega arith);
}
  where
    inv : Float
    inv = one ⊘ M k k

    N : Matrix
    N = for (k + 1) n (rank1 n k inv) M
