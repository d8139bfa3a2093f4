-- Exchanging rows of some columns, and dividing a block of size 2.
use Rattle.std.specs.Prelude.{List, ◌≡◌, ℕ, ◌+◌, ◌*◌, ◌<◌, Float, length, set, refl}
use Rattle.std.proofs.Common.{◌∙◌, length-set}
use Rattle.matrix.specs.Rounded.{◌⊖◌, ◌⊗◌, ◌⊘◌}
use Rattle.matrix.specs.Matrix.{Matrix}
use Rattle.matrix.specs.Columns.{at, column, each_column}
use Rattle.substitution.proofs.Rows.{put_first, put_each}
use Rattle.lblt_solve_columns.specs.Column.{swap_rows, divide_two, block_determinant}

module _ {columns : ℕ} (n : ℕ) (b : List Float) (long : length b ≡ n * columns) where
  pub swapped
      : (p q : ℕ) {x z : ℕ → Float} (b₁ : List Float) {b₂ : List Float}
      → ((j : ℕ) → j < columns → x j ≡ at (column n j b) p) → ((j : ℕ) → j < columns → z j ≡ at (column n j b) q)
      → length b₁ ≡ length b → ((j : ℕ) → j < columns → column n j b₁ ≡ set (column n j b) p (z j))
      → length b₂ ≡ length b₁ → ((j : ℕ) → j < columns → column n j b₂ ≡ set (column n j b₁) q (x j))
      → b₂ ≡ each_column n columns (λ l. swap_rows l p q) b
  unfolding swap_rows
  swapped p q b₁ ex ez kept₁ put₁ kept₂ put₂ =
      put_each long q (λ l. set l p (at l q)) (λ l. length-set l p (at l q)) (record { number = ex })
      (put_first long p (record { number = ez }) kept₁ put₁)
      kept₂
      put₂

  pub divided_two
      : (A : Matrix) (k : ℕ) {x z c r c' r' : ℕ → Float} {d₁₁ d₂₂ d₂₁ : Float} (b₁ : List Float) {b₂ : List Float}
      → d₁₁ ≡ A k k → d₂₂ ≡ A (k + 1) (k + 1) → d₂₁ ≡ A (k + 1) k
      → ((j : ℕ) → j < columns → x j ≡ at (column n j b) k) → ((j : ℕ) → j < columns → z j ≡ at (column n j b) (k + 1))
      → ((j : ℕ) → j < columns → c j ≡ x j ⊗ d₂₂ ⊖ z j ⊗ d₂₁) → ((j : ℕ) → j < columns → r j ≡ c j ⊘ (d₁₁ ⊗ d₂₂ ⊖ d₂₁ ⊗ d₂₁))
      → length b₁ ≡ length b → ((j : ℕ) → j < columns → column n j b₁ ≡ set (column n j b) k (r j))
      → ((j : ℕ) → j < columns → c' j ≡ z j ⊗ d₁₁ ⊖ x j ⊗ d₂₁) → ((j : ℕ) → j < columns → r' j ≡ c' j ⊘ (d₁₁ ⊗ d₂₂ ⊖ d₂₁ ⊗ d₂₁))
      → length b₂ ≡ length b₁ → ((j : ℕ) → j < columns → column n j b₂ ≡ set (column n j b₁) (k + 1) (r' j))
      → b₂ ≡ each_column n columns (divide_two A k) b
  unfolding divide_two block_determinant
  divided_two A k b₁ e₁₁ e₂₂ e₂₁ ex ez ec er kept₁ put₁ ec' er' kept₂ put₂ =
      put_each long (k + 1) _ (λ l. length-set l k _)
      (record { number = λ j below. er' j below ∙ rw (ec' j below, ex j below, ez j below, e₁₁, e₂₂, e₂₁) refl })
      (put_first long k (record { number = λ j below. er j below ∙ rw (ec j below, ex j below, ez j below, e₁₁, e₂₂, e₂₁) refl }) kept₁ put₁)
      kept₂
      put₂
