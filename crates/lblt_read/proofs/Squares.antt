-- Writing a lent n·n matrix at plain offsets.
use mathlib.Core.List.{List, [], ◌∷◌}
use mathlib.Core.Path.{◌≡◌, ◌∙◌}
use Prim.Native.Nat.{ℕ, ◌+◌, ◌*◌, ◌<◌, ◌≤◌}
use native.Mathlib.Omega.{arith}
use lib.Ieee.{Float, nan}
use lib.ListN.{length, get_or, set, length-set}
use Rattle.std.specs.List.{swap}
use Rattle.std.proofs.lemmas.List.{get_or_default}
use Rattle.matrix.specs.Matrix.{Matrix, entry, exchange}
use Rattle.matrix.specs.Grid.{load, Sound, Holds}
use Rattle.matrix.specs.Layouts.{square, place_square, Fills}
use Rattle.matrix.proofs.Grids.{holds_put, holds_then, holds_as}
use Rattle.matrix.proofs.Places.{in_square_law, square_at, digits_within, product_small}
use Rattle.matrix.proofs.Squares.{square_sound}
use Rattle.lblt_read.specs.inner.Engine.{Squared}

pub sound_of : {n : ℕ} {l : List Float} → Squared n l → Sound (square n) l
sound_of {n} {l} s = square_sound n l s.long

pub squared_of : {n : ℕ} {l₀ l : List Float} {M : Matrix} → n ≤ 1024 → Holds (square n) l₀ l M → Squared n l
unfolding square
squared_of small h = record { small = small; long = h.sound.long }

-- entry (i, j) lies within the slice
pub place_within : (n : ℕ) (l : List Float) (i j : ℕ) → length l ≡ n * n → i < n → j < n → i + j * n < length l
place_within n l i j long row column = rw long (digits_within n n i j row column)

-- where entry (i, j) stands
pub record Entry (l : List Float) (p : ℕ) : Type 0 where
  pub within : p < length l
  pub small : p < 1048576

pub entry_at : {n : ℕ} {l : List Float} → Squared n l → (i j : ℕ) → i < n → j < n → Entry l (i + j * n)
entry_at {n} {l} s i j row column =
    let within = place_within n l i j s.long row column in
    record { within = within; small = omega (arith, s.long, product_small n n s.small s.small) }

pub put_square : (n : ℕ) (l : List Float) (i j : ℕ) (x : Float) → length l ≡ n * n → i < n → j < n → Holds (square n) l (set l (i + j * n) x) (entry (load (square n) l) i j x)
unfolding square place_square
put_square n l i j x long row column = holds_put (square n) l (square_sound n l long) i j (in_square_law n i j row column) x

-- ---- two entries of a row exchanged

swapped : (l : List Float) (p q : ℕ) → p < length l → q < length l → swap l p q ≡ set (set l p (get_or l q nan)) q (get_or l p nan)
swapped [] p q first second = absurd (omega arith)
swapped (x ∷ l) p q first second = rw (get_or_default (x ∷ l) q x nan second, get_or_default (x ∷ l) p x nan first)

module _ (n : ℕ) (l : List Float) (row : ℕ) (long : length l ≡ n * n) (below : row < n) where
  pub exchange_square : (p q : ℕ) → p < n → q < n → Holds (square n) l (swap l (row + p * n) (row + q * n)) (exchange (load (square n) l) row p row q)
  unfolding exchange
  exchange_square p q hp hq =
      rw (swapped l (row + p * n) (row + q * n) (place_within n l row p long below hp) (place_within n l row q long below hq))
      (holds_as
      (holds_then (λ M. entry M row q (get_or l (row + p * n) nan))
      (put_square n l row p (get_or l (row + q * n) nan) long below hp)
      (put_square n (set l (row + p * n) (get_or l (row + q * n) nan)) row q (get_or l (row + p * n) nan) (length-set l (row + p * n) (get_or l (row + q * n) nan) ∙ long) below hq))
      (rw (square_at n l row p below hp, square_at n l row q below hq)))

-- the matrix under another name
pub fills_as : {n : ℕ} {l : List Float} {M N : Matrix} → Fills n l M → M ≡ N → Fills n l N
fills_as f e = record { long = f.long; cells = f.cells ∙ e }
