-- The places of the lower triangle of order n, column by column.
use Rattle.std.specs.Prelude.{ℕ, zero, suc, ◌+◌, ◌*◌, List, [], ◌∷◌, ◌++◌}
use Rattle.sheet_text.specs.declared.place.Place.{Place}

-- m places of column j, from row i down
unfoldable pub rows : ℕ → ℕ → ℕ → List Place
rows zero i j = []
rows (suc m) i j = record { row = i; column = j } ∷ rows m (suc i) j

-- m columns from column j on, each from its diagonal to the last row
unfoldable pub columns : ℕ → ℕ → List Place
columns zero j = []
columns (suc m) j = rows (suc m) j j ++ columns m (suc j)

unfoldable pub places : ℕ → List Place
places n = columns n 0

-- where an entry stands among n columns of n numbers
abbrev pub cell : ℕ → Place → ℕ
cell n p = p.row + p.column * n
