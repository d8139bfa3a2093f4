-- A block may be divided as soon as it is eliminated: the blocks after it leave its rows alone.
--     early     the division pass after the forward pass is the walk of `reduce_block`
use Rattle.std.specs.Prelude.{List, ◌⊎◌, ◌≡◌, ℕ, ◌+◌, ◌<◌, ◌≤◌, Float, set}
use Rattle.std.specs.Float.{nan}
use Rattle.std.proofs.Common.{inl, inr, sym, ap, ◌∙◌, arith, get_or-set_other}
use Rattle.std.proofs.Math.Seq.{set_comm}
use Rattle.answer.proofs.Tests.{eq_or_ne}
use Rattle.matrix.specs.Matrix.{Matrix}
use Rattle.matrix.specs.Columns.{at}
use Rattle.pivots.specs.Words.{index_at, size_at}
use Rattle.pivots.specs.Rule.{Accepted}
use Rattle.pivots.specs.Blocks.{rows_of, forwards}
use Rattle.pivots.proofs.Boundaries.{Boundary, is_one, is_two}
use Rattle.pivots.proofs.Walks.{size_one, size_two, rows_one, rows_two}
use Rattle.pivots.proofs.WholeWalks.{fused}
use Rattle.substitution.proofs.Beyond.{Beyond, beyond_less, beyond_then, beyond_same, over_two, read_after, eliminate_one_beyond, eliminate_two_beyond, divide_one_early}
use Rattle.lblt_solve_columns.specs.Column.{swap_rows, forward_block, divide_two, divide_block}
use Rattle.lblt_solve_columns.specs.inner.Engine.{reduce_block}

swap_beyond : {low : ℕ} (p q : ℕ) → low ≤ p → low ≤ q → Beyond low (λ b. swap_rows b p q)
unfolding swap_rows
swap_beyond {low} p q hp hq = record {
  over = λ r below v b.
      let first : at (set b r v) p ≡ at b p = read_after (omega arith) v b in
      let second : at (set b r v) q ≡ at b q = read_after (omega arith) v b in
      rw (first, second, set_comm b r p v (at b q) (λ (e : r ≡ p). omega arith), set_comm (set b p (at b q)) r q v (at b p) (λ (e : r ≡ q). omega arith));
  keeps = λ r below b.
      get_or-set_other (set b p (at b q)) q r (at b p) nan (λ (e : r ≡ q). omega arith)
      ∙ get_or-set_other b p r (at b q) nan (λ (e : r ≡ p). omega arith);
}

-- a block of an accepted record has its pivot among its own rows and those after it
forward_beyond : (n : ℕ) (A : Matrix) {words : List ℕ} {j : ℕ} → Boundary n words j → j < n → Beyond j (forward_block n A words j)
unfolding forward_block
forward_beyond n A {words} {j} b below = go (eq_or_ne (size_at words j) 1)
  where
    go : (size_at words j ≡ 1) ⊎ (size_at words j ≡ 1 → ⊥) → Beyond j (forward_block n A words j)
    go (inl one) =
        let block = is_one b below one in
        beyond_same
        (beyond_then (swap_beyond j (index_at words j) (omega arith) (omega (arith, block.low))) (eliminate_one_beyond n A j (omega arith)))
        (λ l. size_one words j _ _ one)
    go (inr other) =
        let block = is_two b below other in
        beyond_same
        (beyond_then (swap_beyond (j + 1) (index_at words j) (omega arith) (omega (arith, block.low))) (eliminate_two_beyond n A j (omega arith)))
        (λ l. size_two words j _ _ other)

-- ---- the division before later steps

module _ (A : Matrix) {f : List Float → List Float} where
  divide_two_early : (k : ℕ) → Beyond (k + 2) f → (b : List Float) → f (divide_two A k b) ≡ divide_two A k (f b)
  unfolding divide_two
  divide_two_early k h b =
      over_two h k (k + 1) (omega arith) (omega arith) _ _ b
      ∙ rw (h.keeps k (omega arith) b, h.keeps (k + 1) (omega arith) b)

  divide_early : (words : List ℕ) (k : ℕ) → Beyond (k + rows_of words k) f → (b : List Float) → f (divide_block A words k b) ≡ divide_block A words k (f b)
  unfolding divide_block
  divide_early words k h b = go (eq_or_ne (size_at words k) 1)
    where
      go : (size_at words k ≡ 1) ⊎ (size_at words k ≡ 1 → ⊥) → f (divide_block A words k b) ≡ divide_block A words k (f b)
      go (inl one) =
          ap f (size_one words k _ _ one) ∙ divide_one_early A k (rw (rows_one words k one) at h) b ∙ sym (size_one words k _ _ one)
      go (inr other) =
          ap f (size_two words k _ _ other) ∙ divide_two_early k (rw (rows_two words k other) at h) b ∙ sym (size_two words k _ _ other)

-- ---- the two passes as one

pub early
    : (n : ℕ) (A : Matrix) {words : List ℕ} → Accepted n words → (b : List Float)
    → forwards n words (divide_block A words) (forwards n words (forward_block n A words) b) ≡ forwards n words (reduce_block n A words) b
unfolding reduce_block
early n A {words} a b =
    fused n words (forward_block n A words) (divide_block A words)
    (λ j k boundary below after s. divide_early A words k (beyond_less after (forward_beyond n A boundary below)) s)
    a b
