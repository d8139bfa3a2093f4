-- The entries of column j, as they are read and stored. Assumes nothing.
--     above                         an entry of p
--     kept, cross_kept              what a strip of column j leaves of the other columns, and of the sums over them
--     row_entry, quotient_entry     an entry before the diagonal, as each of the two loops stores it
--     with_diagonal_law                 the entries before the diagonal, and the diagonal
--     last_diagonal, last_entries   the last column
--     further_diagonal, further_entries   a further one
--     column_step                   a column, accepted or refused
use mathlib.Core.Bool.{Bool, cond}
use mathlib.Core.List.{List}
use mathlib.Core.Path.{◌≡◌, refl, sym, ◌∙◌, ap, ap₂, subst}
use Prim.Native.Nat.{ℕ, ◌+◌, ◌*◌, ◌≤◌, ◌<◌}
use native.Mathlib.Omega.{arith}
use borrow.Author.Tests.{eq-eqb, ne_eqb}
use lib.ListN.{length, get_or, set}
use lib.Ieee.{Float, nan, eq}
use Rattle.matrix.specs.Loop.{for}
use Rattle.matrix.specs.Grid.{load}
use Rattle.matrix.specs.Layouts.{upper}
use Rattle.matrix.specs.Rounded.{◌⊕◌, ◌⊖◌, ◌⊗◌, ◌⊘◌, plus_zero, one}
use Rattle.matrix.proofs.Loops.{for_same}
use Rattle.matrix.proofs.Places.{upper_at, digits_column}
use Rattle.strips.specs.inner.Strip.{row_at, Strip}
use Rattle.strips.proofs.Strips.{Partway, strip_more, strip_all, strip_as, strip_then}
use Rattle.udu.specs.Columns.{Factors, plus_cross, square_sum, cross_sum, udu_diagonal, last_entry, further_entry, udu_entry}
use Rattle.udu.specs.inner.Contracts.{factors_in, multiples_of, quotients_of, diagonal_in, ColumnStep}

above : (n : ℕ) (p : List Float) (i j : ℕ) → i ≤ j → j < n → row_at p (j * n) i ≡ load (upper n) p i j
above n p i j row column = sym (upper_at n p i j row column)

-- ---- after a strip of column j

module _ (n j : ℕ) {rows : ℕ} {v : ℕ → Float} {u₀ u : List Float} (w : Strip (j * n) 0 rows v u₀ u) (low : rows ≤ n) where
  pub kept : (i c : ℕ) → i < n → (c ≡ j → ⊥) → row_at u (c * n) i ≡ row_at u₀ (c * n) i
  kept i c row other = w.outside (i + c * n) (λ r from below e. other (digits_column n i c r j row (omega arith) e))

  pub cross_kept : (d : List Float) (lo hi i : ℕ) (s : Float) → j < lo → j < n → i < n
      → for lo hi (plus_cross (factors_in n u d) j i) s ≡ for lo hi (plus_cross (factors_in n u₀ d) j i) s
  cross_kept d lo hi i s after row row' =
      for_same lo hi (plus_cross (factors_in n u d) j i) (plus_cross (factors_in n u₀ d) j i) s (λ k x from upto.
      ap₂ (λ (y z : Float). x ⊕ (get_or d k nan ⊗ y) ⊗ z) (kept j k row (λ e. omega arith)) (kept i k row' (λ e. omega arith)))

-- ---- a further column

module _ (n j : ℕ) (F : Factors) (p : List Float) (x : Float) where
  before_diagonal : (i : ℕ) (s : Float) → i < j → j < n → s ≡ cross_sum n F j i → (row_at p (j * n) i ⊖ s) ⊘ x ≡ further_entry n (load (upper n) p) F x j i
  unfolding further_entry
  before_diagonal i s less row is =
      rw (ne_eqb i j (λ (e : i ≡ j). omega arith)) (ap₂ (λ (y z : Float). (y ⊖ z) ⊘ x) (above n p i j (omega arith) row) is)

  on_diagonal_law : one ≡ further_entry n (load (upper n) p) F x j j
  unfolding further_entry
  on_diagonal_law = rw (eq-eqb j j refl)

  pub with_diagonal_law : {u₀ u : List Float} → j + j * n < length u₀ → Strip (j * n) 0 j (further_entry n (load (upper n) p) F x j) u₀ u
      → Strip (j * n) 0 (j + 1) (further_entry n (load (upper n) p) F x j) u₀ (set u (j + j * n) one)
  with_diagonal_law {u₀} {u} within w =
      let before : Partway (j * n) 0 (j + 1) (further_entry n (load (upper n) p) F x j) u₀ j u = record { from = omega arith; upto = omega arith; strip = w } in
      strip_all (strip_more one before (omega arith) (omega arith) on_diagonal_law) (omega arith)

  pub quotient_entry : {u₀ u₁ u₂ : List Float} → j < n → Strip (j * n) 0 j (cross_sum n F j) u₀ u₁ → Strip (j * n) 0 j (quotients_of p u₁ (j * n) x) u₁ u₂
      → Strip (j * n) 0 j (further_entry n (load (upper n) p) F x j) u₀ u₂
  quotient_entry row w v = strip_as (strip_then w v) (λ i from less. before_diagonal i _ less row (w.inside i from less))

-- the sum is read in what stands in u, where the rows before i are stored already
pub row_entry : (n j i : ℕ) (d p : List Float) (x : Float) {v : ℕ → Float} {u₀ u : List Float} (s : Float)
    → Partway (j * n) 0 j v u₀ i u → i < j → j < n → s ≡ cross_sum n (factors_in n u d) j i
    → (row_at p (j * n) i ⊖ s) ⊘ x ≡ further_entry n (load (upper n) p) (factors_in n u₀ d) x j i
unfolding cross_sum
row_entry n j i d p x {u₀ = u₀} s w less row is =
    before_diagonal n j (factors_in n u₀ d) p x i s less row
    (is ∙ cross_kept n j w.strip (omega (arith, w.upto)) d (j + 1) n i plus_zero (omega arith) row (omega arith))

-- ---- a column as a whole

pub last_diagonal : (n j : ℕ) (p u d : List Float) → j + 1 ≡ n → get_or p (j + j * n) nan ≡ diagonal_in n j p u d
unfolding udu_diagonal
last_diagonal n j p u d last = rw (eq-eqb (j + 1) n last) (above n p j j (omega arith) (omega arith))

pub further_diagonal : (n j : ℕ) (p u d : List Float) (s : Float) → j + 1 < n → s ≡ square_sum n (factors_in n u d) j → get_or p (j + j * n) nan ⊖ s ≡ diagonal_in n j p u d
unfolding udu_diagonal
further_diagonal n j p u d s below is = rw (ne_eqb (j + 1) n (λ (e : j + 1 ≡ n). omega arith)) (ap₂ (λ (x y : Float). x ⊖ y) (above n p j j (omega arith) (omega arith)) is)

module _ (n j : ℕ) (F : Factors) (p : List Float) (x : Float) {u₀ u : List Float} where
  pub last_entries : j + 1 ≡ n → Strip (j * n) 0 n (multiples_of p (j * n) (one ⊘ x)) u₀ u → Strip (j * n) 0 (j + 1) (udu_entry n (load (upper n) p) F x j) u₀ u
  unfolding udu_entry last_entry
  last_entries last w =
      rw last (strip_as w (λ i from row. rw (eq-eqb (j + 1) n last) (ap (λ (y : Float). (one ⊘ x) ⊗ y) (above n p i j (omega arith) (omega arith)))))

  pub further_entries : j + 1 < n → Strip (j * n) 0 (j + 1) (further_entry n (load (upper n) p) F x j) u₀ u → Strip (j * n) 0 (j + 1) (udu_entry n (load (upper n) p) F x j) u₀ u
  unfolding udu_entry
  further_entries below w = strip_as w (λ i from row. rw (ne_eqb (j + 1) n (λ (e : j + 1 ≡ n). omega arith)))

pub column_step : {n j : ℕ} {p u₀ d₀ u : List Float} (r : Bool) {x : Float} → x ≡ diagonal_in n j p u₀ d₀ → eq x plus_zero ≡ r
    → Strip (j * n) 0 (cond r 0 (j + 1)) (udu_entry n (load (upper n) p) (factors_in n u₀ d₀) x j) u₀ u → ColumnStep n j p u₀ d₀ r u (set d₀ j x)
column_step {n} {j} {p} {u₀} {d₀} {u} r is zero column = record {
  tested = sym zero ∙ ap (λ (y : Float). eq y plus_zero) is;
  diagonal = ap (set d₀ j) is;
  column = subst (λ (y : Float). Strip (j * n) 0 (cond r 0 (j + 1)) (udu_entry n (load (upper n) p) (factors_in n u₀ d₀) y j) u₀ u) is column;
}
