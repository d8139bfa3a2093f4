-- Later columns added to column k, one after the other: `Adding n k start from a l₀ i l` is the loop's invariant. Assumes nothing.
use mathlib.Core.Bool.{Bool, true, false, cond, ◌&&◌}
use mathlib.Core.List.{List, [], ◌∷◌}
use mathlib.Core.Logic.{inr}
use mathlib.Core.Path.{◌≡◌, refl, sym, ap, ap₂, subst, fun_ext, ◌∙◌}
use Prim.Native.Nat.{ℕ, ◌+◌, ◌-◌, ◌*◌, ◌<◌, ◌≤◌}
use native.Mathlib.Omega.{arith}
use borrow.Author.Tests.{eq-eqb, eqb-true, lt-ltb, ltb-true, ltb-false}
use lib.Dec.{T, eqb, ltb}
use lib.ListN.{length, get_or}
use lib.Ieee.{Float, nan, binary64}
use Rattle.matrix.specs.Matrix.{Matrix}
use Rattle.matrix.specs.Loop.{for}
use Rattle.matrix.specs.declared.Layout.{Layout}
use Rattle.matrix.specs.Grid.{load, mask, Holds}
use Rattle.matrix.specs.Layouts.{lower, start_of, square, in_square}
use Rattle.matrix.proofs.Loops.{for_same}
use Rattle.matrix.proofs.Grids.{holds_as}
use Rattle.matrix.proofs.Places.{digits_within, in_square_law, square_at, square_place}
use Rattle.matrix.proofs.Products.{mul_commutes}
use Rattle.matrix.proofs.Squares.{square_sound}
use Rattle.matrix.specs.Rounded.{◌⊕◌, ◌⊗◌}
use Rattle.strips.specs.declared.Source.{Source}
use Rattle.strips.specs.inner.Strip.{row_at, Strip, Elsewhere, plus, axpy_of, Gathered}
use Rattle.strips.proofs.Strips.{strip_holds}
use Rattle.strips.proofs.Gathering.{gathered_none, gathered_axpy, gathered_then}
use Rattle.substitution.proofs.Offsets.{offset_at}
use Rattle.lblt_read.specs.Permuted.{gather_product, gather_column}

-- column i, and what it is multiplied by: a(i, k), where column k of a starts at `start`
abbrev pub column_times : ℕ → List Float → ℕ → ℕ → Source
column_times n a start i = record { start = i * n; scale = get_or a (i + start) nan }

-- it stands behind column k
pub column_elsewhere : (n k i : ℕ) {l : List Float} (s : Source) → s.start ≡ i * n → length l ≡ n * n → k < i → i < n → Elsewhere 0 n (k * n) l s
column_elsewhere n k i s starts long behind below = record {
  within = omega (arith, digits_within n n (n - 1) i (omega arith) below);
  beside = inr (omega (arith, digits_within n i (n - 1) k (omega arith) behind));
}

-- the columns from `from` up to i are added
pub record Adding (n k start from : ℕ) (a l₀ : List Float) (i : ℕ) (l : List Float) : Type 0 where
  pub upto : i ≤ n
  pub columns : Gathered (k * n) 0 n (column_times n a start) from l₀ i l

pub adding_none : {n k start from : ℕ} {a l : List Float} → from ≤ n → Adding n k start from a l from l
adding_none within = record { upto = within; columns = gathered_none }

pub adding_more : {n k start from : ℕ} {a l₀ : List Float} {i : ℕ} {l l' : List Float} → Adding n k start from a l₀ i l → length l₀ ≡ n * n → k < from → i < n
    → Strip (k * n) 0 n (axpy_of l (k * n) (column_times n a start i ∷ [])) l l' → Adding n k start from a l₀ (i + 1) l'
adding_more {n} {k} {start} {from} {a} {l₀} {i} w long behind below step = record {
  upto = omega arith;
  columns =
      let first = w.columns.from in
      gathered_then w.columns (gathered_axpy (column_times n a start i ∷ []) only step) (λ c low high. refl) (λ c low high. column_elsewhere n k c (column_times n a start c) refl long (omega arith) (omega arith));
}
  where
    only : (c : ℕ) (s : Source) → c < 1 → get_or (column_times n a start i ∷ []) c s ≡ column_times n a start (i + c)
    only c s below =
        let first : c ≡ 0 = omega arith in
        let same : i ≡ i + 0 = omega arith in
        rw first (ap (column_times n a start) same)

module _ (y : Layout) (a : List Float) (k start from : ℕ) (starts : start ≡ start_of y k) (behind : k < from) (within : from ≤ y.order) (l₀ : List Float) where
  abbrev n : ℕ
  n = y.order

  abbrev A : Matrix
  A = load (lower y) a

  abbrev L : Matrix
  L = load (square n) l₀

  gathers : Matrix
  gathers = gather_column n A k from L

  column : k < n
  column = omega arith

  written : (i : ℕ) → 0 ≤ i → i < n → for from n (λ c. plus l₀ (column_times n a start c) i) (row_at l₀ (k * n) i) ≡ gathers i k
  unfolding gathers gather_column gather_product plus
  written i low row =
      rw (lt-ltb i n row, eq-eqb k k refl)
      (for_same from n (λ c. plus l₀ (column_times n a start c) i) (gather_product A L k i) (row_at l₀ (k * n) i) (λ c x after upto.
      ap (λ (z : Float). x ⊕ z)
      (mul_commutes binary64 (get_or a (c + start) nan) (row_at l₀ (c * n) i)
      ∙ ap₂ (λ (u v : Float). u ⊗ v) (sym (square_at n l₀ i c row upto)) (offset_at y a k c start starts (omega arith) upto)))
      ∙ ap (for from n (gather_product A L k i)) (sym (square_at n l₀ i k row column)))

  kept : (i c : ℕ) → T ((square n).inside i c) → (0 ≤ i → i < n → c ≡ k → ⊥) → L i c ≡ gathers i c
  unfolding gathers gather_column
  kept i c t off = at (ltb i n) (eqb c k) refl refl
    where
      at : (p q : Bool) → ltb i n ≡ p → eqb c k ≡ q → L i c ≡ cond (ltb i n && eqb c k) (for from n (gather_product A L k i) (L i k)) (L i c)
      at true true e f = absurd (off (omega arith) (ltb-true i n e) (eqb-true c k f))
      at true false e f = rw (e, f)
      at false q e f = rw e

  -- nothing stands outside
  outside : mask (square n) gathers ≡ gathers
  unfolding gathers gather_column mask load square in_square
  outside = fun_ext (λ i. fun_ext (λ c. at i c (ltb i n) (ltb c n) (eqb c k) refl refl refl))
    where
      at : (i c : ℕ) (p q r : Bool) → ltb i n ≡ p → ltb c n ≡ q → eqb c k ≡ r → mask (square n) gathers i c ≡ gathers i c
      at i c false q r e f h = rw e
      at i c true true r e f h = rw (e, f)
      at i c true false true e f h =
          let past : n ≤ c = ltb-false c n f in
          let same : c ≡ k = eqb-true c k h in
          absurd (omega arith)
      at i c true false false e f h = rw (e, f, h)

  pub adding_all : {i : ℕ} {l : List Float} → Adding n k start from a l₀ i l → n ≤ i → length l₀ ≡ n * n → Holds (square n) l₀ l (gather_column n A k from L)
  unfolding gathers
  adding_all {i} {l} w past long =
      holds_as
      (strip_holds k (square_sound n l₀ long) (λ i low row. in_square_law n i k row column) (λ i low row. square_place n i k) gathers written kept all.sums)
      outside
    where
      all : Gathered (k * n) 0 n (column_times n a start) from l₀ n l
      all = subst (λ (i : ℕ). Gathered (k * n) 0 n (column_times n a start) from l₀ i l) (omega (arith, w.upto)) w.columns
