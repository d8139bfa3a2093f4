-- Two rows of the way forward at a time.
--     lower_row_law       a row's step by the steps of LBLT's solve
--     lower_pair      the steps of rows k and k + 1, the rows below going through both at once
--     lower_last      the last row has none below
use Rattle.std.specs.Prelude.{List, [], ◌∷◌, ◌≡◌, refl, ℕ, zero, suc, ◌+◌, ◌-◌, ◌<◌, ◌≤◌, Float, set}
use Rattle.std.specs.Float.{nan, binary64}
use Rattle.std.proofs.Common.{sym, ap, ◌∙◌, arith, get_or-set_other}
use Rattle.matrix.specs.Rounded.{◌⊖◌, ◌⊗◌}
use Rattle.matrix.specs.Matrix.{Matrix}
use Rattle.matrix.specs.Loop.{turns, for}
use Rattle.matrix.proofs.Loops.{for_one, for_join, for_same, for_fused}
use Rattle.matrix.proofs.Products.{less_is_plus}
use Rattle.matrix.specs.Columns.{at}
use Rattle.substitution.specs.Steps.{divide_one, less_one, less_two, eliminate_one, eliminate_two}
use Rattle.substitution.proofs.Beyond.{Beyond, beyond_set, beyond_for, beyond_less, divide_one_early, read_after}
use Rattle.cholesky_solve.specs.Triangles.{spread_product, spread_row, lower_row}
use Rattle.cholesky_solve.specs.inner.Engine.{next_row}

pub lower_row_law : (n : ℕ) (L : Matrix) (i : ℕ) (b : List Float) → lower_row n L i b ≡ eliminate_one n L i (divide_one L i b)
unfolding lower_row spread_row spread_product eliminate_one less_one
lower_row_law n L i b =
    for_same _ _ _ _ (divide_one L i b)
    (λ r c low high. ap (set c r) (sym (less_is_plus binary64 (at c r) (L r i) (at (divide_one L i b) i))))

-- a row that was just stored, stored anew
pub store_again : (b : List Float) (i : ℕ) (x : Float) (f : Float → Float) → set (set b i x) i (f (at (set b i x) i)) ≡ set b i (f x)
store_again [] i x f = refl
store_again (y ∷ b) zero x f = refl
store_again (y ∷ b) (suc i) x f = ap (◌∷◌ y) (store_again b i x f)

module _ (n : ℕ) (L : Matrix) where
  less_beyond : (k : ℕ) (x : Float) (i : ℕ) → Beyond i (less_one L k x i)
  unfolding less_one
  less_beyond k x i = beyond_set _ (omega arith) (λ r below v b. rw (read_after {r = r} {i = i} below v b))

  -- a later row less one product, after an earlier row less another
  less_apart : (k m : ℕ) (x z : Float) (i j : ℕ) (b : List Float) → i < j → less_one L k x j (less_one L m z i b) ≡ less_one L m z i (less_one L k x j b)
  unfolding less_one
  less_apart k m x z i j b before =
      let later = less_beyond k x j in
      later.over i before (at b i ⊖ L i m ⊗ z) b ∙ rw (later.keeps i before b)

  less_both : (k : ℕ) (x z : Float) (i : ℕ) (b : List Float) → less_one L (k + 1) z i (less_one L k x i b) ≡ less_two L k x z i b
  unfolding less_one less_two
  less_both k x z i b = store_again b i _ (λ v. v ⊖ L i (k + 1) ⊗ z)

  -- the rows after k + 1 less their products with row k
  abbrev below : ℕ → Float → List Float → List Float
  below k x = for (k + 2) n (less_one L k x)

  below_beyond : (k : ℕ) (x : Float) → Beyond (k + 2) (below k x)
  below_beyond k x = beyond_for (k + 2) n (less_one L k x) (λ i from. beyond_less from (less_beyond k x i))

  -- row k + 1 before the rows below
  next_first : (k : ℕ) → k + 1 < n → (c : List Float) → eliminate_one n L k c ≡ below k (at c k) (next_row L k c)
  unfolding eliminate_one next_row
  next_first k inside c =
      let place : k + 1 + 1 ≡ k + 2 = omega arith in
      sym (for_join (k + 1) (k + 1 + 1) n (less_one L k (at c k)) c (omega arith) (omega arith))
      ∙ ap (for (k + 1 + 1) n (less_one L k (at c k))) (for_one (k + 1) (less_one L k (at c k)) c)
      ∙ ap (λ (lo : ℕ). for lo n (less_one L k (at c k)) (less_one L k (at c k) (k + 1) c)) place

  -- the rows below less both products
  both_below : (k : ℕ) (x : Float) (d : List Float) → eliminate_one n L (k + 1) (below k x d) ≡ for (k + 2) n (less_two L k x (at d (k + 1))) d
  unfolding eliminate_one
  both_below k x d =
      let place : k + 1 + 1 ≡ k + 2 = omega arith in
      ap (λ (lo : ℕ). for lo n (less_one L (k + 1) (at (below k x d) (k + 1))) (below k x d)) place
      ∙ ap (λ (z : Float). for (k + 2) n (less_one L (k + 1) z) (below k x d)) ((below_beyond k x).keeps (k + 1) (omega arith) d)
      ∙ for_fused (k + 2) n (less_one L k x) (less_one L (k + 1) (at d (k + 1))) d (λ i j b low before high. less_apart k (k + 1) x (at d (k + 1)) i j b before)
      ∙ for_same (k + 2) n _ _ d (λ i b low high. less_both k x (at d (k + 1)) i b)

  -- what is done to row k + 1 leaves row k
  row_kept : (k : ℕ) (c : List Float) → at (divide_one L (k + 1) (next_row L k c)) k ≡ at c k
  unfolding divide_one next_row less_one
  row_kept k c =
      get_or-set_other (next_row L k c) (k + 1) k _ nan (λ (e : k ≡ k + 1). omega arith)
      ∙ get_or-set_other c (k + 1) k _ nan (λ (e : k ≡ k + 1). omega arith)

  lower_steps : (k : ℕ) → k + 1 < n → (c : List Float)
      → eliminate_one n L (k + 1) (divide_one L (k + 1) (eliminate_one n L k c)) ≡ eliminate_two n L k (divide_one L (k + 1) (next_row L k c))
  unfolding eliminate_two
  lower_steps k inside c =
      ap (λ (b : List Float). eliminate_one n L (k + 1) (divide_one L (k + 1) b)) (next_first k inside c)
      ∙ ap (eliminate_one n L (k + 1)) (sym (divide_one_early L (k + 1) (beyond_less (omega arith) (below_beyond k (at c k))) (next_row L k c)))
      ∙ both_below k (at c k) (divide_one L (k + 1) (next_row L k c))
      ∙ ap (λ (x : Float). for (k + 2) n (less_two L k x (at (divide_one L (k + 1) (next_row L k c)) (k + 1))) (divide_one L (k + 1) (next_row L k c))) (sym (row_kept k c))

  pub lower_pair
      : (k : ℕ) → k + 1 < n → (b : List Float)
      → eliminate_two n L k (divide_one L (k + 1) (next_row L k (divide_one L k b))) ≡ lower_row n L (k + 1) (lower_row n L k b)
  lower_pair k inside b =
      sym (lower_row_law n L (k + 1) (lower_row n L k b)
      ∙ ap (λ (c : List Float). eliminate_one n L (k + 1) (divide_one L (k + 1) c)) (lower_row_law n L k b)
      ∙ lower_steps k inside (divide_one L k b))

  pub lower_last : (k : ℕ) → n ≤ k + 1 → (b : List Float) → lower_row n L k b ≡ divide_one L k b
  unfolding lower_row spread_row for turns
  lower_last k last b =
      let none : n - (k + 1) ≡ 0 = omega arith in
      ap (turns (k + 1) (spread_product L k (at (divide_one L k b) k)) (divide_one L k b)) none
