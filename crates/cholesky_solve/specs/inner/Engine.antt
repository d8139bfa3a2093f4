-- What the engine's parts promise to each other.
use Rattle.std.specs.Prelude.{List, ℕ, ◌+◌, Float}
use Rattle.matrix.specs.Matrix.{Matrix}
use Rattle.matrix.specs.Columns.{at}
use Rattle.substitution.specs.Steps.{less_one}

-- row k + 1 less l(k+1,k) times row k
unfoldable pub next_row : Matrix → ℕ → List Float → List Float
unfolding less_one
next_row L k b = less_one L k (at b k) (k + 1) b
