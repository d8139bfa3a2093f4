-- A slice of which a promise says what it holds, written out. Assumes nothing.
use mathlib.Core.Path.{◌≡◌, refl, sym, ap, ◌∙◌, subst}
use mathlib.Core.Bool.{Bool, true, false, cond, ◌&&◌}
use mathlib.Core.List.{List, [], ◌∷◌}
use Prim.Native.Nat.{ℕ, zero, suc, ◌+◌, ◌*◌, ◌/◌, ◌%◌, ◌<◌, suc-le-suc}
use native.Mathlib.Nat.{zero-lt-suc, not-suc-le-zero, mod-lt, mod-add-div', div-lt_iff_lt-mul}
use native.Mathlib.Decide.{dec_lt}
use native.Mathlib.Omega.{arith}
use lib.Dec.{T, eqb}
use lib.ListN.{length, get_or, get_or-eq_default}
use lib.Ieee.{Float, nan}
use lib.Ieee.Bits.{is_true}
use borrow.Author.Tests.{eq-eqb, eqb-true}
use Rattle.matrix.specs.declared.Layout.{Layout}
use Rattle.matrix.specs.Matrix.{Matrix}
use Rattle.matrix.specs.Loop.{for}
use Rattle.matrix.specs.Grid.{Grid, Fair, Sound, mask, Free, Holds}
use Rattle.matrix.specs.Layouts.{lower, Laid, Fills}
use Rattle.matrix.proofs.Loops.{for_at, for_still}
use Rattle.matrix.proofs.Grids.{load_is, mask_load, holds_as, holds_unique}
use Rattle.matrix.proofs.Places.{lower_low, lower_left, square_at}

-- ---- c numbers: f 0, f 1, ..

unfoldable pub listed : (ℕ → Float) → ℕ → List Float
listed f zero = []
listed f (suc c) = f zero ∷ listed (λ i. f (suc i)) c

pub listed_length : (f : ℕ → Float) (c : ℕ) → length (listed f c) ≡ c
unfolding listed
listed_length f zero = refl
listed_length f (suc c) = ap suc (listed_length (λ i. f (suc i)) c)

pub listed_at : (f : ℕ → Float) (c i : ℕ) → i < c → get_or (listed f c) i nan ≡ f i
unfolding listed
listed_at f zero i below = absurd (not-suc-le-zero below)
listed_at f (suc c) zero below = refl
listed_at f (suc c) (suc i) below = listed_at (λ i. f (suc i)) c i (omega arith)

pub is_listed : (l : List Float) (f : ℕ → Float) (c : ℕ) → length l ≡ c → ((i : ℕ) → i < c → get_or l i nan ≡ f i) → l ≡ listed f c
unfolding listed
is_listed [] f zero long each = refl
is_listed [] f (suc c) long each = absurd (omega arith)
is_listed (x ∷ l) f zero long each = absurd (omega arith)
is_listed (x ∷ l) f (suc c) long each =
    ap (λ (y : Float). y ∷ l) (each zero (zero-lt-suc c))
    ∙ ap (λ (t : List Float). f zero ∷ t) (is_listed l (λ i. f (suc i)) c (omega arith) (λ i h. each (suc i) (suc-le-suc h)))

-- ---- the slice that holds a matrix on a grid, and is as another elsewhere

-- number p, if (i, j) stands there: M's
unfoldable pub overlay_at : Grid → Matrix → ℕ → ℕ → ℕ → Float → Float
overlay_at g M p j i x = cond (g.inside i j && eqb (g.place i j) p) (M i j) x

-- number p, of a grid whose rows and columns are below n: M's, if an entry stands there, else as in l
unfoldable pub overlay : Grid → ℕ → List Float → Matrix → ℕ → Float
unfolding overlay_at
overlay g n l M p = for 0 n (λ (j : ℕ). for 0 n (overlay_at g M p j)) (get_or l p nan)

unfoldable pub overlaid : Grid → ℕ → List Float → Matrix → List Float
overlaid g n l M = listed (overlay g n l M) g.size

module _ (g : Grid) (M : Matrix) (p : ℕ) where
  -- an entry that does not stand there
  overlay_other : (r c : ℕ) (x : Float) → (T (g.inside r c) → g.place r c ≡ p → ⊥) → overlay_at g M p c r x ≡ x
  unfolding overlay_at
  overlay_other r c x apart = by (g.inside r c) (eqb (g.place r c) p) refl refl
    where
      by : (a b : Bool) → g.inside r c ≡ a → eqb (g.place r c) p ≡ b → cond (a && b) (M r c) x ≡ x
      by true true e f = absurd (apart (subst T (sym e) tt) (eqb-true (g.place r c) p f))
      by true false e f = refl
      by false b e f = refl

  overlay_here : (i j : ℕ) (x : Float) → T (g.inside i j) → g.place i j ≡ p → overlay_at g M p j i x ≡ M i j
  unfolding overlay_at
  overlay_here i j x t e = rw (is_true (g.inside i j) t, eq-eqb (g.place i j) p e)

  overlay_free : (n : ℕ) (l : List Float) → Free g p → overlay g n l M p ≡ get_or l p nan
  unfolding overlay
  overlay_free n l free =
      for_still (λ (x : Float). x) 0 n (λ (j : ℕ). for 0 n (overlay_at g M p j)) (get_or l p nan)
      (λ j x from upto. for_still (λ (x : Float). x) 0 n (overlay_at g M p j) x (λ i x from upto. overlay_other i j x (λ t e. free i j t (sym e))))

  module _ (fair : Fair g) (i j : ℕ) (t : T (g.inside i j)) (at : g.place i j ≡ p) where
    apart_row : (r c : ℕ) → (r ≡ i → ⊥) → T (g.inside r c) → g.place r c ≡ p → ⊥
    apart_row r c other u e = other (fair.row r c i j u t (e ∙ sym at))

    apart_column : (r c : ℕ) → (c ≡ j → ⊥) → T (g.inside r c) → g.place r c ≡ p → ⊥
    apart_column r c other u e = other (fair.column r c i j u t (e ∙ sym at))

    overlay_in : (n : ℕ) (l : List Float) → i < n → j < n → overlay g n l M p ≡ M i j
    unfolding overlay
    overlay_in n l row column =
        for_at 0 n j turn (get_or l p nan) (omega arith) column
        ∙ for_still (λ (x : Float). x) (j + 1) n turn _
        (λ c x from upto. for_still (λ (x : Float). x) 0 n (overlay_at g M p c) x (λ r x from' upto'. overlay_other r c x (apart_column r c (λ (e : c ≡ j). omega arith))))
        ∙ for_at 0 n i (overlay_at g M p j) _ (omega arith) row
        ∙ for_still (λ (x : Float). x) (i + 1) n (overlay_at g M p j) _ (λ r x from upto. overlay_other r j x (apart_row r j (λ (e : r ≡ i). omega arith)))
        ∙ overlay_here i j _ t at
      where
        turn : ℕ → Float → Float
        turn c = for 0 n (overlay_at g M p c)

module _ {g : Grid} (n : ℕ) (low : (i j : ℕ) → T (g.inside i j) → i < n) (left : (i j : ℕ) → T (g.inside i j) → j < n) where
  pub overlaid_holds : {l₀ : List Float} → Sound g l₀ → (M : Matrix) → Holds g l₀ (overlaid g n l₀ M) (mask g M)
  unfolding overlaid
  overlaid_holds {l₀} good M = record {
    sound = record { fair = good.fair; long = listed_length (overlay g n l₀ M) g.size };
    cells = load_is g (overlaid g n l₀ M) M (λ i j t.
        listed_at (overlay g n l₀ M) g.size (g.place i j) (good.fair.within i j t)
        ∙ overlay_in g M (g.place i j) good.fair i j t refl n l₀ (low i j t) (left i j t));
    kept = λ p free. kept p free (dec_lt p g.size);
  }
    where
      kept : (p : ℕ) → Free g p → Dec (p < g.size) → get_or (overlaid g n l₀ M) p nan ≡ get_or l₀ p nan
      kept p free (yes below) = listed_at (overlay g n l₀ M) g.size p below ∙ overlay_free g M p n l₀ free
      kept p free (no past) =
          let long : length (overlaid g n l₀ M) ≡ g.size = listed_length (overlay g n l₀ M) g.size in
          let long₀ : length l₀ ≡ g.size = good.long in
          get_or-eq_default (overlaid g n l₀ M) nan (omega arith) ∙ sym (get_or-eq_default l₀ nan (omega arith))

  -- a slice that holds M is this one
  pub holds_overlaid : {l₀ l : List Float} {M : Matrix} → length l₀ ≡ g.size → Holds g l₀ l M → l ≡ overlaid g n l₀ M
  holds_overlaid {l₀} {l} {M} long h =
      holds_unique h (holds_as (overlaid_holds (record { fair = h.sound.fair; long = long }) M) (ap (mask g) (sym h.cells) ∙ mask_load g l ∙ h.cells))

-- of the lower triangle of a layout
pub lower_overlaid : {y : Layout} {l₀ l : List Float} {M : Matrix} → Laid y l₀ → Holds (lower y) l₀ l M → l ≡ overlaid (lower y) y.order l₀ M
lower_overlaid {y} laid h = holds_overlaid y.order (lower_low y) (lower_left y) laid.sound.long h

-- ---- the whole of a square matrix

some_row : (n p : ℕ) → p < n * n → 0 < n
some_row zero p below = absurd (not-suc-le-zero below)
some_row (suc n) p below = zero-lt-suc n

pub fills_listed : {n : ℕ} {l : List Float} {M : Matrix} → Fills n l M → l ≡ listed (λ p. M (p % n) (p / n)) (n * n)
fills_listed {n} {l} {M} h = is_listed l _ (n * n) h.long (λ p below. at p below (some_row n p below))
  where
    at : (p : ℕ) → p < n * n → 0 < n → get_or l p nan ≡ M (p % n) (p / n)
    at p below positive =
        ap (λ (k : ℕ). get_or l k nan) (sym (mod-add-div' p n))
        ∙ sym (square_at n l (p % n) (p / n) (mod-lt p positive) ((div-lt_iff_lt-mul positive).1 below))
        ∙ ap (λ (N : Matrix). N (p % n) (p / n)) h.cells
