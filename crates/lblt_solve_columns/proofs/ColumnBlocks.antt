-- The blocks of a record across the columns: the steps one after the other are the block's step on each column.
--     swapped_none                                     a row exchanged with itself
--     columns_reduced_one, columns_reduced_two         a block eliminated and divided
--     columns_backed_one, columns_backed_two           a block on the way back
--     columns_reduced, columns_backed, columns_solved  all blocks: there, back, and both
use Rattle.std.specs.Prelude.{List, ◌≡◌, refl, ℕ, ◌+◌, ◌-◌, ◌*◌, Float, length}
use Rattle.std.proofs.Common.{sym, ap, ◌∙◌}
use Rattle.std.proofs.Math.Path.{fun_ext}
use Rattle.matrix.specs.Matrix.{Matrix}
use Rattle.matrix.specs.Columns.{each_column}
use Rattle.matrix.proofs.Columns.{each_none, each_then, each_loop}
use Rattle.pivots.specs.Words.{index_at, size_at}
use Rattle.pivots.specs.Rule.{Accepted}
use Rattle.pivots.specs.Blocks.{rows_of, forwards, backwards}
use Rattle.pivots.proofs.Walks.{reads_one, reads_two}
use Rattle.pivots.proofs.WholeWalks.{forwards_uniform, backwards_uniform}
use Rattle.substitution.specs.Steps.{eliminate_one, eliminate_two, divide_one, gather_row}
use Rattle.substitution.proofs.Keeps.{eliminate_one_keeps, eliminate_two_keeps, divide_one_keeps, gather_keeps}
use Rattle.lblt_solve_columns.specs.Column.{swap_rows, divide_two, backward_block, solve_column}
use Rattle.lblt_solve_columns.specs.inner.Engine.{Moved, reduce_block}
use Rattle.lblt_solve_columns.proofs.Early.{early}
use Rattle.lblt_solve_columns.proofs.Keeps.{Forwards, Backwards, divide_two_keeps, swap_keeps, reduce_keeps, backward_keeps, reduced_keeps, backed_keeps}
use Rattle.lblt_solve_columns.proofs.Blocks.{reduce_one, reduce_two, back_one, back_two, swap_none}

module _ (n columns : ℕ) (b₀ : List Float) (long : length b₀ ≡ n * columns) where
  -- a row exchanged with itself
  pub swapped_none : {p q : ℕ} → p ≡ q → b₀ ≡ each_column n columns (λ l. swap_rows l p q) b₀
  swapped_none e = sym (each_none n columns b₀ long) ∙ ap (λ (f : List Float → List Float). each_column n columns f b₀) (fun_ext (λ l. swap_none l e))

  module _ (A : Matrix) where
    -- ---- forwards

    module _ (words : List ℕ) (k : ℕ) {size p : ℕ} (reads : size ≡ size_at words k) (index : p ≡ index_at words k) {b₁ b₂ b₃ : List Float} where
      pub columns_reduced_one
          : size ≡ 1 → b₁ ≡ each_column n columns (λ l. swap_rows l k p) b₀ → b₂ ≡ each_column n columns (eliminate_one n A k) b₁ → b₃ ≡ each_column n columns (divide_one A k) b₂
          → Moved (k + rows_of words k) (k + 1) (each_column n columns (reduce_block n A words k) b₀) b₃
      columns_reduced_one one swap eliminate divide =
          record {
            row = ap (◌+◌ k) (sym (reads_one words k reads one));
            column =
                each_then n columns b₀ long (λ l. eliminate_one n A k (swap_rows l k p)) (divide_one A k) (reduce_block n A words k)
                (λ l. eliminate_one_keeps n A k _ ∙ swap_keeps l k p) (divide_one_keeps A k)
                (reduce_one n A words k reads index one)
                (each_then n columns b₀ long (λ l. swap_rows l k p) (eliminate_one n A k) _ (λ l. swap_keeps l k p) (eliminate_one_keeps n A k) (λ l. refl) swap eliminate)
                divide;
          }

      pub columns_reduced_two
          : (size ≡ 1 → ⊥) → b₁ ≡ each_column n columns (λ l. swap_rows l (k + 1) p) b₀ → b₂ ≡ each_column n columns (eliminate_two n A k) b₁ → b₃ ≡ each_column n columns (divide_two A k) b₂
          → Moved (k + rows_of words k) (k + 2) (each_column n columns (reduce_block n A words k) b₀) b₃
      columns_reduced_two other swap eliminate divide =
          record {
            row = ap (◌+◌ k) (sym (reads_two words k reads other));
            column =
                each_then n columns b₀ long (λ l. eliminate_two n A k (swap_rows l (k + 1) p)) (divide_two A k) (reduce_block n A words k)
                (λ l. eliminate_two_keeps n A k _ ∙ swap_keeps l (k + 1) p) (divide_two_keeps A k)
                (reduce_two n A words k reads index other)
                (each_then n columns b₀ long (λ l. swap_rows l (k + 1) p) (eliminate_two n A k) _ (λ l. swap_keeps l (k + 1) p) (eliminate_two_keeps n A k) (λ l. refl) swap eliminate)
                divide;
          }

    -- ---- backwards

    module _ (words : List ℕ) (k : ℕ) {size p : ℕ} (reads : size ≡ size_at words (k - 1)) (index : p ≡ index_at words (k - 1)) {b₁ b₂ : List Float} where
      pub columns_backed_one
          : size ≡ 1 → b₁ ≡ each_column n columns (gather_row n A (k - 1) k) b₀ → b₂ ≡ each_column n columns (λ l. swap_rows l (k - 1) p) b₁
          → Moved (k - rows_of words (k - 1)) (k - 1) (each_column n columns (backward_block n A words k) b₀) b₂
      columns_backed_one one gather swap =
          record {
            row = ap (◌-◌ k) (sym (reads_one words (k - 1) reads one));
            column =
                each_then n columns b₀ long (gather_row n A (k - 1) k) (λ l. swap_rows l (k - 1) p) (backward_block n A words k)
                (gather_keeps n A (k - 1) k) (λ l. swap_keeps l (k - 1) p)
                (back_one n A words k reads index one)
                gather
                swap;
          }

      pub columns_backed_two
          : {b₃ : List Float} → (size ≡ 1 → ⊥) → b₁ ≡ each_column n columns (gather_row n A (k - 1) k) b₀ → b₂ ≡ each_column n columns (gather_row n A (k - 2) k) b₁
          → b₃ ≡ each_column n columns (λ l. swap_rows l (k - 1) p) b₂
          → Moved (k - rows_of words (k - 1)) (k - 2) (each_column n columns (backward_block n A words k) b₀) b₃
      columns_backed_two other gather₁ gather₂ swap =
          record {
            row = ap (◌-◌ k) (sym (reads_two words (k - 1) reads other));
            column =
                each_then n columns b₀ long (λ l. gather_row n A (k - 2) k (gather_row n A (k - 1) k l)) (λ l. swap_rows l (k - 1) p) (backward_block n A words k)
                (λ l. gather_keeps n A (k - 2) k _ ∙ gather_keeps n A (k - 1) k l) (λ l. swap_keeps l (k - 1) p)
                (back_two n A words k reads index other)
                (each_then n columns b₀ long (gather_row n A (k - 1) k) (gather_row n A (k - 2) k) _ (gather_keeps n A (k - 1) k) (gather_keeps n A (k - 2) k) (λ l. refl) gather₁ gather₂)
                swap;
          }

    -- ---- all blocks

    pub columns_reduced : (words : List ℕ) {b : List Float} → b ≡ forwards n words (λ k. each_column n columns (reduce_block n A words k)) b₀ → b ≡ each_column n columns (forwards n words (reduce_block n A words)) b₀
    columns_reduced words e = e ∙ each_loop n columns (Forwards n words) (forwards_uniform n words) (reduce_block n A words) (reduce_keeps n A words) b₀ long

    pub columns_backed : (words : List ℕ) {b : List Float} → b ≡ backwards n words (λ k. each_column n columns (backward_block n A words k)) b₀ → b ≡ each_column n columns (backwards n words (backward_block n A words)) b₀
    columns_backed words e = e ∙ each_loop n columns (Backwards n words) (backwards_uniform n words) (backward_block n A words) (backward_keeps n A words) b₀ long

    pub columns_solved
        : {words : List ℕ} {b₁ b₂ : List Float} → Accepted n words
        → b₁ ≡ each_column n columns (forwards n words (reduce_block n A words)) b₀ → b₂ ≡ each_column n columns (backwards n words (backward_block n A words)) b₁
        → b₂ ≡ each_column n columns (solve_column n A words) b₀
    unfolding solve_column
    columns_solved {words} accepted e₁ e₂ =
        each_then n columns b₀ long (forwards n words (reduce_block n A words)) (backwards n words (backward_block n A words)) (solve_column n A words)
        (reduced_keeps n A words) (backed_keeps n A words)
        (λ l. ap (backwards n words (backward_block n A words)) (sym (early n A accepted l)))
        e₁ e₂
