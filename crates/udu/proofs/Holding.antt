-- Two slices that hold what was found, and one more column. Assumes nothing.
--     cell                                 an entry
--     holding_none                         slices that are cleared
--     holding_diagonal, holding_column     d(j) stored; column j written
use mathlib.Core.Bool.{Bool, true, false, cond, ◌&&◌}
use mathlib.Core.List.{List}
use mathlib.Core.Path.{◌≡◌, refl, sym, ◌∙◌, ap, subst}
use Prim.Native.Nat.{ℕ, ◌+◌, ◌*◌, ◌≤◌, ◌<◌}
use native.Mathlib.Omega.{arith}
use borrow.Author.Tests.{eq-eqb, eqb-true, eqb-false, le-leb, leb-true}
use lib.Dec.{T, leb, eqb}
use lib.ListN.{length, get_or, set, length-set}
use lib.Seq.{get_or-set_same, get_or-set_other}
use lib.Ieee.{Float, nan}
use Rattle.matrix.specs.Matrix.{Matrix}
use Rattle.matrix.specs.Grid.{load, mask}
use Rattle.matrix.specs.Layouts.{square, Fills}
use Rattle.matrix.proofs.Grids.{mask_in}
use Rattle.matrix.proofs.Places.{square_at, square_place, in_square_law}
use Rattle.matrix.proofs.Squares.{square_sound, fills_holds}
use Rattle.strips.specs.inner.Strip.{row_at, Strip, zero_at}
use Rattle.strips.proofs.Strips.{strip_holds, cleared, cleared_square}
use Rattle.udu.specs.Columns.{Factors, nothing, with_diagonal, with_column}
use Rattle.udu.specs.Promise.{Holding}

pub cell : {n : ℕ} {u : List Float} (M : Matrix) → Fills n u (mask (square n) M) → (i k : ℕ) → i < n → k < n → row_at u (k * n) i ≡ M i k
cell {n} {u} M fills i k row column =
    sym (square_at n u i k row column) ∙ ap (λ (N : Matrix). N i k) fills.cells ∙ mask_in (square n) M i k (in_square_law n i k row column)

pub holding_none : {n : ℕ} {u₀ d₀ u d : List Float} → length u₀ ≡ n * n → length d₀ ≡ n → Strip 0 0 (n * n) zero_at u₀ u → Strip 0 0 n zero_at d₀ d → Holding n nothing u d
unfolding nothing
holding_none long short clear clear' = record {
  upper = cleared_square long clear;
  diagonal = record { long = clear'.long ∙ short; cells = cleared clear' };
}

pub holding_diagonal : {n : ℕ} {F : Factors} {u d : List Float} (j : ℕ) (x : Float) → j < n → Holding n F u d → Holding n (with_diagonal F j x) u (set d j x)
unfolding with_diagonal
holding_diagonal {n} {F} {u} {d} j x below h = record {
  upper = h.upper;
  diagonal = record { long = length-set d j x ∙ h.diagonal.long; cells = λ k row. at k row (eqb k j) refl };
}
  where
    at : (k : ℕ) → k < n → (b : Bool) → eqb k j ≡ b → get_or (set d j x) k nan ≡ cond (eqb k j) x (F.d k)
    at k row true e =
        subst (λ (m : ℕ). get_or (set d j x) m nan ≡ x) (sym (eqb-true k j e)) (get_or-set_same d j x nan (omega (arith, h.diagonal.long)))
        ∙ sym (ap (λ (b : Bool). cond b x (F.d k)) e)
    at k row false e =
        get_or-set_other d j k x nan (eqb-false k j e) ∙ h.diagonal.cells k row ∙ sym (ap (λ (b : Bool). cond b x (F.d k)) e)

pub holding_column : {n : ℕ} {F : Factors} {u₀ u d : List Float} (j : ℕ) (v : ℕ → Float) → j < n → Strip (j * n) 0 (j + 1) v u₀ u → Holding n F u₀ d → Holding n (with_column F j v) u d
unfolding with_column
holding_column {n} {F} {u₀} {u} {d} j v below w h = record {
  upper = fills_holds (strip_holds j (square_sound n u₀ h.upper.long) (λ i from upto. in_square_law n i j (omega arith) below) (λ i from upto. square_place n i j) (with_column F j v).u written kept w);
  diagonal = h.diagonal;
}
  where
    written : (i : ℕ) → 0 ≤ i → i < j + 1 → v i ≡ cond (eqb j j && leb i j) (v i) (F.u i j)
    written i from upto = rw (eq-eqb j j refl, le-leb i j (omega arith))

    kept : (i k : ℕ) → T ((square n).inside i k) → (0 ≤ i → i < j + 1 → k ≡ j → ⊥) → load (square n) u₀ i k ≡ cond (eqb k j && leb i j) (v i) (F.u i k)
    kept i k t off = ap (λ (N : Matrix). N i k) h.upper.cells ∙ mask_in (square n) F.u i k t ∙ at (eqb k j) (leb i j) refl refl
      where
        at : (a b : Bool) → eqb k j ≡ a → leb i j ≡ b → F.u i k ≡ cond (eqb k j && leb i j) (v i) (F.u i k)
        at true true e f = absurd (off (omega arith) (omega (arith, leb-true i j f)) (eqb-true k j e))
        at true false e f = rw (e, f)
        at false b e f = rw e
