-- The step at a block, by the block's size, in a matrix and in a product. Assumes nothing.
--     rows_read                      its size is how many rows it has
--     put_four                       the entries of a block of size 2
--     permuted_one, permuted_two     the columns of a block exchanged, and the later ones added
use Rattle.std.proofs.Common.{◌≡◌, ◌+◌, ◌<◌, ◌⊎◌, inl, inr, ℕ, List, Float, sym, ap, ◌∙◌}
use Rattle.answer.proofs.Tests.{eq_or_ne}
use Rattle.matrix.specs.Matrix.{Matrix, entry}
use Rattle.matrix.specs.Grid.{load, Holds}
use Rattle.matrix.specs.Layouts.{square}
use Rattle.matrix.proofs.Grids.{holds_then, holds_as}
use Rattle.pivots.specs.Words.{index_at, size_at}
use Rattle.pivots.specs.Blocks.{rows_of}
use Rattle.pivots.proofs.Boundaries.{Boundary, is_two}
use Rattle.pivots.proofs.Walks.{rows_one, rows_two}
use Rattle.lblt_read.specs.Diagonal.{diagonal_two}
use Rattle.lblt_read.specs.Permuted.{swap_columns, gather_column}

pub rows_read : {n : ℕ} {words : List ℕ} {k : ℕ} → Boundary n words k → k < n → size_at words k ≡ rows_of words k
rows_read {n} {words} {k} b below = at (eq_or_ne (size_at words k) 1)
  where
    at : (size_at words k ≡ 1) ⊎ (size_at words k ≡ 1 → ⊥) → size_at words k ≡ rows_of words k
    at (inl one) = one ∙ sym (rows_one words k one)
    at (inr other) = (is_two b below other).size ∙ sym (rows_two words k other)

-- the four entries of a block of size 2
pub put_four
    : (A : Matrix) (k n : ℕ) {l l₁ l₂ l₃ l₄ : List Float} {d11 d21 d22 : Float}
    → d11 ≡ A k k → d21 ≡ A (k + 1) k → d22 ≡ A (k + 1) (k + 1)
    → Holds (square n) l l₁ (entry (load (square n) l) k k d11)
    → Holds (square n) l₁ l₂ (entry (load (square n) l₁) (k + 1) k d21)
    → Holds (square n) l₂ l₃ (entry (load (square n) l₂) k (k + 1) d21)
    → Holds (square n) l₃ l₄ (entry (load (square n) l₃) (k + 1) (k + 1) d22)
    → Holds (square n) l l₄ (diagonal_two A k (load (square n) l))
unfolding diagonal_two
put_four A k n {d11 = d11} {d21} {d22} e₁ e₂ e₃ h₁ h₂ h₃ h₄ =
    holds_as
    (holds_then (λ M. entry M (k + 1) (k + 1) d22) (holds_then (λ M. entry M k (k + 1) d21) (holds_then (λ M. entry M (k + 1) k d21) h₁ h₂) h₃) h₄)
    (rw (e₁, e₂, e₃))

-- the columns of a block exchanged, and the later ones added
module _ (n : ℕ) (A : Matrix) (words : List ℕ) (k : ℕ) {p : ℕ} (reads : p ≡ index_at words k) {l l₁ l₂ : List Float} where
  pub permuted_one
      : Holds (square n) l l₁ (swap_columns n k p (load (square n) l))
      → Holds (square n) l₁ l₂ (gather_column n A k (k + 1) (load (square n) l₁))
      → Holds (square n) l l₂ (gather_column n A k (k + 1) (swap_columns n k (index_at words k) (load (square n) l)))
  permuted_one h₁ h₂ = holds_then (gather_column n A k (k + 1)) (holds_as h₁ (ap (λ (q : ℕ). swap_columns n k q (load (square n) l)) reads)) h₂

  pub permuted_two
      : {l₃ : List Float}
      → Holds (square n) l l₁ (swap_columns n (k + 1) p (load (square n) l))
      → Holds (square n) l₁ l₂ (gather_column n A k (k + 2) (load (square n) l₁))
      → Holds (square n) l₂ l₃ (gather_column n A (k + 1) (k + 2) (load (square n) l₂))
      → Holds (square n) l l₃ (gather_column n A (k + 1) (k + 2) (gather_column n A k (k + 2) (swap_columns n (k + 1) (index_at words k) (load (square n) l))))
  permuted_two h₁ h₂ h₃ =
      holds_then (gather_column n A (k + 1) (k + 2))
      (holds_then (gather_column n A k (k + 2)) (holds_as h₁ (ap (λ (q : ℕ). swap_columns n (k + 1) q (load (square n) l)) reads)) h₂)
      h₃
