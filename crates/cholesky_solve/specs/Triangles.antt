-- `solve_mut` on one column b of right-hand sides, L the factor.
use Rattle.std.specs.Prelude.{List, ℕ, ◌+◌, Float, set}
use Rattle.std.specs.Float.Ieee.{neg}
use Rattle.matrix.specs.Rounded.{◌⊕◌, ◌⊗◌}
use Rattle.matrix.specs.Matrix.{Matrix}
use Rattle.matrix.specs.Loop.{for, falling}
use Rattle.matrix.specs.Columns.{at}
use Rattle.substitution.specs.Steps.{divide_one, gather_row}

-- ---- L y = b

-- row r plus (−x)·l(r,i)
unfoldable pub spread_product : Matrix → ℕ → Float → ℕ → List Float → List Float
spread_product L i x r b = set b r (at b r ⊕ neg x ⊗ L r i)

-- each row after i plus (−b(i))·l(r,i)
unfoldable pub spread_row : ℕ → Matrix → ℕ → List Float → List Float
unfolding spread_product
spread_row n L i b = for (i + 1) n (spread_product L i (at b i)) b

-- row i is divided by l(i,i), then each later row gets its product
unfoldable pub lower_row : ℕ → Matrix → ℕ → List Float → List Float
unfolding spread_row
lower_row n L i b = spread_row n L i (divide_one L i b)

unfoldable pub solve_lower : ℕ → Matrix → List Float → List Float
unfolding lower_row
solve_lower n L b = for 0 n (lower_row n L) b

-- ---- Lᵀ x = y

-- row i less l(r,i)·b(r) for r rising from i + 1, then divided by l(i,i)
unfoldable pub transposed_row : ℕ → Matrix → ℕ → List Float → List Float
transposed_row n L i b = divide_one L i (gather_row n L i (i + 1) b)

unfoldable pub solve_transposed : ℕ → Matrix → List Float → List Float
unfolding transposed_row
solve_transposed n L b = falling n (transposed_row n L) b

-- ---- L Lᵀ x = b

unfoldable pub solve_triangles : ℕ → Matrix → List Float → List Float
unfolding solve_lower solve_transposed
solve_triangles n L b = solve_transposed n L (solve_lower n L b)
