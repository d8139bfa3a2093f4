-- A slice that is a whole square matrix. Assumes nothing.
use mathlib.Core.Path.{◌≡◌, sym, ◌∙◌, ap, subst}
use mathlib.Core.List.{List}
use Prim.Native.Nat.{ℕ, ◌+◌, ◌*◌, ◌/◌, ◌%◌, ◌<◌}
use native.Mathlib.Nat.{mod-lt, mod-add-div', div-lt_iff_lt-mul, eq-zero-or-pos, zero-mul}
use native.Mathlib.Omega.{arith}
use mathlib.Core.Logic.{⊎_elim}
use lib.ListN.{length, get_or}
use lib.Seq.{ext_get_or}
use lib.Dec.{ltb, ltb→lt}
use lib.Ieee.{Float, nan}
use lib.Ieee.Fits.{and_l, and_r}
use Rattle.matrix.specs.Matrix.{Matrix}
use Rattle.matrix.specs.Grid.{mask, Sound, Holds}
use Rattle.matrix.specs.Layouts.{in_square, place_square, square, Fills}
use Rattle.matrix.proofs.Grids.{load_is}
use Rattle.matrix.proofs.Places.{square_at, square_fair}

pub square_sound : (n : ℕ) (l : List Float) → length l ≡ n * n → Sound (square n) l
unfolding square
square_sound n l long = record { fair = square_fair n; long = long }

pub fills_holds : {n : ℕ} {l₀ l : List Float} {M : Matrix} → Holds (square n) l₀ l M → Fills n l M
unfolding square
fills_holds h = record { long = h.sound.long; cells = h.cells }

-- entry by entry
pub fills_each : (n : ℕ) (l : List Float) (M : Matrix) → length l ≡ n * n → ((i j : ℕ) → i < n → j < n → get_or l (i + j * n) nan ≡ M i j) → Fills n l (mask (square n) M)
unfolding square place_square in_square
fills_each n l M long each =
    record {
      long = long;
      cells = load_is (square n) l M (λ i j t.
          each i j (ltb→lt i n (and_l (ltb i n) (ltb j n) t)) (ltb→lt j n (and_r (ltb i n) (ltb j n) t)));
    }

pub fills_unique : {n : ℕ} {l l' : List Float} {M : Matrix} → Fills n l M → Fills n l' M → l ≡ l'
fills_unique {n} {l} {l'} {M} f g = ext_get_or nan l l' (f.long ∙ sym g.long) at
  where
    cell : (i j : ℕ) → i < n → j < n → get_or l (i + j * n) nan ≡ get_or l' (i + j * n) nan
    cell i j row column =
        sym (square_at n l i j row column) ∙ ap (λ (N : Matrix). N i j) (f.cells ∙ sym g.cells) ∙ square_at n l' i j row column

    split : (p : ℕ) → p < n * n → 0 < n → get_or l p nan ≡ get_or l' p nan
    split p below positive =
        subst (λ (k : ℕ). get_or l k nan ≡ get_or l' k nan) (mod-add-div' p n)
        (cell (p % n) (p / n) (mod-lt p positive) ((div-lt_iff_lt-mul positive).1 below))

    at : (p : ℕ) → p < length l → get_or l p nan ≡ get_or l' p nan
    at p h =
        let below : p < n * n = subst (λ (k : ℕ). p < k) f.long h in
        ⊎_elim
        (λ none. absurd (let empty : n * n ≡ 0 = rw none (zero-mul 0) in let z : 0 < 0 = omega arith in omega arith))
        (split p below)
        (eq-zero-or-pos n)
