-- The work on one column of a matrix.
use Rattle.std.specs.Prelude.{cond, ◌&&◌, ℕ, eqb, leb, Float}
use Rattle.std.specs.Float.Ieee.{neg}
use Rattle.matrix.specs.Matrix.{Matrix}
use Rattle.matrix.specs.Loop.{for}
use Rattle.matrix.specs.Rounded.{◌⊕◌, ◌⊗◌, ◌⊘◌}

-- what column k does to x, on its way to entry (i, j): x + (−l(j,k))·l(i,k)
unfoldable pub less : Matrix → ℕ → ℕ → ℕ → Float → Float
less M i j k x = x ⊕ neg (M j k) ⊗ M i k

-- row i of column j after the first k columns, k rising
unfoldable pub updated : Matrix → ℕ → ℕ → ℕ → Float
unfolding less
updated M j k i = for 0 k (less M i j) (M i j)

-- row i of column j, divided by d
unfoldable pub divided : Matrix → ℕ → Float → ℕ → Float
divided M j d i = M i j ⊘ d

-- v in the rows from r on of column j, all else as in M
unfoldable pub part : ℕ → ℕ → (ℕ → Float) → Matrix → Matrix
part r j v M i c = cond (leb r i && eqb c j) (v i) (M i c)
