-- The laws of the readers' loops. Assumes nothing.
use mathlib.Core.Path.{◌≡◌, sym, ◌∙◌, ap, subst}
use mathlib.Core.Bool.{false}
use mathlib.Core.List.{List}
use mathlib.Core.Logic.{⊎_elim}
use Prim.Native.Nat.{ℕ, ◌+◌, ◌*◌, ◌≤◌, ◌<◌}
use native.Mathlib.Nat.{eq-or-lt_of_le}
use native.Mathlib.Omega.{arith}
use lib.ListN.{length, get_or}
use lib.Ieee.{Float, nan}
use borrow.Author.Tests.{le-leb, lt-leb}
use Rattle.matrix.specs.declared.Layout.{Layout}
use Rattle.matrix.specs.Matrix.{Matrix, all_zero}
use Rattle.matrix.specs.Grid.{Holds, load, mask}
use Rattle.matrix.specs.Layouts.{Roomy, start_of, place_in, lower, strict, square, Laid, Fills}
use Rattle.matrix.proofs.Grids.{load_is}
use Rattle.matrix.proofs.Places.{digits_column, strict_low, strict_left, in_strict_law, strict_fair, lower_at, plain_start}
use Rattle.matrix.proofs.Squares.{fills_each}
use Rattle.strips.specs.inner.Strip.{Strip, row_at, zero_at}
use Rattle.cholesky.specs.Readers.{triangle}
use Rattle.cholesky.specs.inner.Engine.{down}
use Rattle.strips.proofs.Strips.{strip_as, strip_at, strip_join}

-- ---- l, column by column

pub column_copied : (y : Layout) (j : ℕ) (a l₀ l l' : List Float) (to from : ℕ) → j < y.order → from ≡ start_of y j
    → Strip to 0 j zero_at l₀ l → Strip to j y.order (row_at a from) l l' → Strip to 0 y.order (down (triangle (load (lower y) a)) j) l₀ l'
unfolding triangle
column_copied y j a l₀ l l' to from lt is zeros rest =
    strip_join (omega arith) (omega arith) (strip_as zeros (λ i low upto. rw (lt-leb j i upto)))
    (strip_as rest (λ i low upto. rw (le-leb j i low) (ap (λ (s : ℕ). get_or a (i + s) nan) is ∙ sym (lower_at y a i j low upto))))

-- the columns before j are N's
pub record Filling (n : ℕ) (N : Matrix) (j : ℕ) (l : List Float) : Type 0 where
  pub upto : j ≤ n
  pub long : length l ≡ n * n
  pub each : (i c : ℕ) → i < n → c < j → get_or l (i + c * n) nan ≡ N i c

pub filling_more : {n : ℕ} {N : Matrix} {j : ℕ} {l l' : List Float} → Filling n N j l → j < n → Strip (j * n) 0 n (down N j) l l' → Filling n N (j + 1) l'
filling_more {n} {N} {j} {l} {l'} f lt strip = record { upto = omega arith; long = strip.long ∙ f.long; each = each }
  where
    each : (i c : ℕ) → i < n → c < j + 1 → get_or l' (i + c * n) nan ≡ N i c
    each i c row column =
        ⊎_elim
        (λ (same : c ≡ j). subst (λ (c : ℕ). get_or l' (i + c * n) nan ≡ N i c) (sym same) (strip.inside i (omega arith) row))
        (λ (less : c < j). strip.outside (i + c * n) (λ k low under e. let same : c ≡ j = digits_column n i c k j row under e in omega arith) ∙ f.each i c row less)
        (eq-or-lt_of_le {n = c} {m = j} (omega arith))

pub filling_all : {n : ℕ} {N : Matrix} {j : ℕ} {l : List Float} → Filling n N j l → n ≤ j → Fills n l (mask (square n) N)
filling_all {n} {N} {j} {l} f past = fills_each n l N f.long (λ i c row column. f.each i c row (omega arith))

-- ---- unpack, column by column

-- above the diagonal the columns before j are zero
pub record Unpacking (y : Layout) (l₀ : List Float) (j : ℕ) (l : List Float) : Type 0 where
  pub upto : j ≤ y.order
  pub long : length l ≡ length l₀
  pub each : (i c : ℕ) → i < c → c < j → get_or l (i + start_of y c) nan ≡ all_zero i c
  pub kept : (p : ℕ) → ((i c : ℕ) → i < c → c < j → p ≡ i + start_of y c → ⊥) → get_or l p nan ≡ get_or l₀ p nan

pub unpacking_more : {y : Layout} {l₀ : List Float} {j : ℕ} {l l' : List Float} (s : ℕ) → Unpacking y l₀ j l → y.packed ≡ false → Roomy y → j < y.order → s ≡ start_of y j → Strip s 0 j zero_at l l' → Unpacking y l₀ (j + 1) l'
unpacking_more {y} {l₀} {j} {l} {l'} s f plain roomy lt is strip' = record {
  upto = omega arith;
  long = strip.long ∙ f.long;
  each = each;
  kept = λ p free. strip.outside p (λ i low under e. free i j under (omega arith) e) ∙ f.kept p (λ i c row column. free i c row (omega arith));
}
  where
    strip : Strip (start_of y j) 0 j zero_at l l'
    strip = strip_at is strip'

    each : (i c : ℕ) → i < c → c < j + 1 → get_or l' (i + start_of y c) nan ≡ all_zero i c
    each i c row column =
        ⊎_elim
        (λ (same : c ≡ j). subst (λ (c : ℕ). get_or l' (i + start_of y c) nan ≡ all_zero i c) (sym same) (strip.inside i (omega arith) (omega arith)))
        (λ (less : c < j).
        strip.outside (i + start_of y c)
        (λ k low under e.
        let same : c ≡ j = digits_column y.room i c k j (omega arith) (omega arith) (rw (plain_start y plain c, plain_start y plain j) at e) in omega arith)
        ∙ f.each i c row less)
        (eq-or-lt_of_le {n = c} {m = j} (omega arith))

pub unpacking_all : {y : Layout} {l₀ : List Float} {j : ℕ} {l : List Float} → Unpacking y l₀ j l → y.order ≤ j → y.packed ≡ false → Laid y l₀ → Holds (strict y) l₀ l (mask (strict y) all_zero)
unfolding strict lower place_in
unpacking_all {y} {l₀} {j} {l} f past plain laid = record {
  sound = record { fair = strict_fair y plain laid.roomy; long = f.long ∙ laid.sound.long };
  cells = load_is (strict y) l all_zero (λ i c t. let b = strict_left y i c t in f.each i c (strict_low y i c t) (omega arith));
  kept = λ p free. f.kept p (λ i c row column e. free i c (in_strict_law y i c row (let h = f.upto in omega arith)) e);
}
