-- The matrix of a further batch that is handed over in parts.
use Rattle.std.specs.Prelude.{cond, List, ℕ, ◌+◌, ◌-◌, ltb, get_or, Float}
use Rattle.std.specs.Float.{nan}
use Rattle.matrix.specs.Matrix.{Matrix}
use Rattle.matrix.specs.Grid.{load}
use Rattle.matrix.specs.Layouts.{packed, entries_of, lower}

-- how many numbers stand before row i, where rows are laid end to end from row m on, with i + 1 numbers for row i
unfoldable pub row_start : ℕ → ℕ → ℕ
row_start m i = entries_of i - entries_of m

-- entry (i, j) of those rows
unfoldable pub new_row : ℕ → List Float → ℕ → ℕ → Float
unfolding row_start
new_row m rows j i = get_or rows (row_start m i + j) nan

-- the rows before m are those of a packed triangle of order m, the others the new ones
unfoldable pub joined : ℕ → List Float → List Float → Matrix
unfolding new_row
joined m old rows i j = cond (ltb i m) (load (lower (packed m)) old i j) (new_row m rows j i)
