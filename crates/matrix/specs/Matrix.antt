-- A matrix is a function: the row, then the column. `lib.Ieee` has one `nan`, so all NaNs count as one.
use Rattle.std.specs.Prelude.{cond, ◌&&◌, ℕ, eqb, Float}
use Rattle.matrix.specs.Rounded.{plus_zero}

abbrev pub Matrix : Type 0
Matrix = ℕ → ℕ → Float

abbrev pub all_zero : Matrix
all_zero i j = plus_zero

-- v at (i, j), all else as in M
unfoldable pub entry : Matrix → ℕ → ℕ → Float → Matrix
entry M i j v r c = cond (eqb r i && eqb c j) v (M r c)

-- the entries (i, j) and (r, c) exchanged
unfoldable pub exchange : Matrix → ℕ → ℕ → ℕ → ℕ → Matrix
unfolding entry
exchange M i j r c = entry (entry M i j (M r c)) r c (M i j)
