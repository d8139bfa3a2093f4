-- The steps on a column of n numbers, row by row.
--     eliminate_rows, eliminate_rows_two      a column of the factor, two columns
--     gather_rows                             a row less the later rows
use Rattle.std.specs.Prelude.{List, ◌≡◌, refl, ℕ, zero, suc, ◌+◌, ◌-◌, ◌<◌, ◌≤◌, Float, length, set}
use Rattle.std.specs.Float.{nan}
use Rattle.std.proofs.Common.{sym, ap, ◌∙◌, arith, length-set, get_or-set_same, get_or-set_other, set-set}
use Rattle.std.proofs.Math.Seq.{set-get_or}
use Rattle.matrix.specs.Rounded.{◌⊖◌, ◌⊗◌}
use Rattle.matrix.specs.Matrix.{Matrix}
use Rattle.matrix.specs.Loop.{turns, for}
use Rattle.matrix.specs.Columns.{at}
use Rattle.substitution.specs.Steps.{less_one, less_two, eliminate_one, eliminate_two, less_product, gather_row}
use Rattle.lblt_solve_rows.specs.inner.Rows.{less_row}

pub less_keeps : (i k : ℕ) (x : Float) (l : List Float) → length (less_row i k x l) ≡ length l
unfolding less_row
less_keeps i k x l = length-set l i _

module _ (n : ℕ) (A : Matrix) (l : List Float) (long : length l ≡ n) where
  -- row i less x·row k and then less z·row m
  less_both
      : (i k m : ℕ) (x z : Float) (b : List Float) → i < length b → (m ≡ i → ⊥)
      → less_row i m z (less_row i k x b) ≡ set b i (at b i ⊖ x ⊗ at b k ⊖ z ⊗ at b m)
  unfolding less_row
  less_both i k m x z b inside other =
      set-set b i _ _
      ∙ ap (set b i) (rw (get_or-set_same b i (at b i ⊖ x ⊗ at b k) nan inside, get_or-set_other b i m (at b i ⊖ x ⊗ at b k) nan other) refl)

  pub eliminate_rows : (k : ℕ) → for (k + 1) n (λ i. less_row i k (A i k)) l ≡ eliminate_one n A k l
  unfolding eliminate_one for turns less_one less_row
  eliminate_rows k = (go (n - (k + 1))).0
    where
      after : ℕ → List Float
      after c = turns (k + 1) (less_one A k (at l k)) l c

      go : (c : ℕ) → (turns (k + 1) (λ i. less_row i k (A i k)) l c ≡ after c) × (at (after c) k ≡ at l k)
      go zero = (refl, refl)
      go (suc c) =
          let h = go c in
          (rw (h.0, h.1) refl, get_or-set_other (after c) (k + 1 + c) k _ nan (λ (e : k ≡ k + 1 + c). omega arith) ∙ h.1)

  -- two columns of the factor taken from c rows
  taken : ℕ → ℕ → List Float
  taken k c = turns (k + 2) (less_two A k (at l k) (at l (k + 1))) l c

  record Taken (k c : ℕ) : Type 0 where
    pub same : turns (k + 2) (λ i b. less_row i (k + 1) (A i (k + 1)) (less_row i k (A i k) b)) l c ≡ taken k c
    pub first : at (taken k c) k ≡ at l k
    pub second : at (taken k c) (k + 1) ≡ at l (k + 1)
    pub kept : length (taken k c) ≡ n

  take_rows : (k c : ℕ) → c ≤ n - (k + 2) → Taken k c
  unfolding taken turns less_two
  take_rows k zero h = record { same = refl; first = refl; second = refl; kept = long }
  take_rows k (suc c) h =
      let r = take_rows k c (omega arith) in
      record {
        same =
            ap (λ (b : List Float). less_row (k + 2 + c) (k + 1) (A (k + 2 + c) (k + 1)) (less_row (k + 2 + c) k (A (k + 2 + c) k) b)) r.same
            ∙ less_both (k + 2 + c) k (k + 1) _ _ (taken k c) (omega (arith, r.kept)) (λ (e : k + 1 ≡ k + 2 + c). omega arith)
            ∙ rw (r.first, r.second) refl;
        first = get_or-set_other (taken k c) (k + 2 + c) k _ nan (λ (e : k ≡ k + 2 + c). omega arith) ∙ r.first;
        second = get_or-set_other (taken k c) (k + 2 + c) (k + 1) _ nan (λ (e : k + 1 ≡ k + 2 + c). omega arith) ∙ r.second;
        kept = length-set (taken k c) (k + 2 + c) _ ∙ r.kept;
      }

  pub eliminate_rows_two : (k : ℕ) → for (k + 2) n (λ i b. less_row i (k + 1) (A i (k + 1)) (less_row i k (A i k) b)) l ≡ eliminate_two n A k l
  unfolding eliminate_two for taken
  eliminate_rows_two k = (take_rows k (n - (k + 2)) (omega arith)).same

  pub gather_rows : (row from : ℕ) → row < from → row < n → for from n (λ i. less_row row i (A i row)) l ≡ gather_row n A row from l
  unfolding gather_row for turns less_product less_row
  gather_rows row from below inside = go (n - from)
    where
      sum : ℕ → Float
      sum c = turns from (less_product A l row) (at l row) c

      go : (c : ℕ) → turns from (λ i. less_row row i (A i row)) l c ≡ set l row (sum c)
      go zero = sym (set-get_or l row nan)
      go (suc c) =
          ap (λ (b : List Float). less_row row (from + c) (A (from + c) row) b) (go c)
          ∙ set-set l row _ _
          ∙ ap (set l row)
          (rw (get_or-set_same l row (sum c) nan (omega (arith, long)), get_or-set_other l row (from + c) (sum c) nan (λ (e : from + c ≡ row). omega arith)) refl)
