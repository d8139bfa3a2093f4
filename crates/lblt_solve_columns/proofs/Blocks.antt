-- The step at a block, by the block's size as it is read.
--     reduce_one, reduce_two      the steps on a column that make `reduce_block`
--     back_one, back_two          those that make `backward_block`
--     swap_none                   a row exchanged with itself
use Rattle.std.specs.Prelude.{List, ◌≡◌, ℕ, ◌+◌, ◌-◌, Float}
use Rattle.std.proofs.Common.{ap, ◌∙◌}
use Rattle.std.proofs.Math.Seq.{set-get_or}
use Rattle.matrix.specs.Matrix.{Matrix}
use Rattle.pivots.specs.Words.{index_at, size_at}
use Rattle.pivots.proofs.Walks.{one_is, two_is}
use Rattle.substitution.specs.Steps.{eliminate_one, eliminate_two, divide_one, gather_row}
use Rattle.lblt_solve_columns.specs.Column.{swap_rows, forward_block, divide_two, divide_block, backward_block}
use Rattle.lblt_solve_columns.specs.inner.Engine.{reduce_block}

-- ---- forwards

module _ (n : ℕ) (A : Matrix) (words : List ℕ) (k : ℕ) {size p : ℕ} (reads : size ≡ size_at words k) (index : p ≡ index_at words k) where
  pub reduce_one : size ≡ 1 → (l : List Float) → divide_one A k (eliminate_one n A k (swap_rows l k p)) ≡ reduce_block n A words k l
  unfolding reduce_block forward_block divide_block
  reduce_one one l =
      ap (λ (q : ℕ). divide_one A k (eliminate_one n A k (swap_rows l k q))) index
      ∙ ap (divide_one A k) (one_is words k reads _ one)
      ∙ one_is words k reads _ one

  pub reduce_two : (size ≡ 1 → ⊥) → (l : List Float) → divide_two A k (eliminate_two n A k (swap_rows l (k + 1) p)) ≡ reduce_block n A words k l
  unfolding reduce_block forward_block divide_block
  reduce_two other l =
      ap (λ (q : ℕ). divide_two A k (eliminate_two n A k (swap_rows l (k + 1) q))) index
      ∙ ap (divide_two A k) (two_is words k reads _ other)
      ∙ two_is words k reads _ other

-- ---- backwards

module _ (n : ℕ) (A : Matrix) (words : List ℕ) (k : ℕ) {size p : ℕ} (reads : size ≡ size_at words (k - 1)) (index : p ≡ index_at words (k - 1)) where
  pub back_one : size ≡ 1 → (l : List Float) → swap_rows (gather_row n A (k - 1) k l) (k - 1) p ≡ backward_block n A words k l
  unfolding backward_block
  back_one one l = ap (swap_rows (gather_row n A (k - 1) k l) (k - 1)) index ∙ one_is words (k - 1) reads _ one

  pub back_two : (size ≡ 1 → ⊥) → (l : List Float) → swap_rows (gather_row n A (k - 2) k (gather_row n A (k - 1) k l)) (k - 1) p ≡ backward_block n A words k l
  unfolding backward_block
  back_two other l = ap (swap_rows (gather_row n A (k - 2) k (gather_row n A (k - 1) k l)) (k - 1)) index ∙ two_is words (k - 1) reads _ other

-- a row exchanged with itself
pub swap_none : (b : List Float) {p q : ℕ} → p ≡ q → b ≡ swap_rows b p q
unfolding swap_rows
swap_none b e = rw (← e, set-get_or, set-get_or)
