-- One row of a column taken from another.
use Rattle.std.specs.Prelude.{List, ℕ, Float, set}
use Rattle.matrix.specs.Rounded.{◌⊖◌, ◌⊗◌}
use Rattle.matrix.specs.Columns.{at}

-- row i less x·row k
unfoldable pub less_row : ℕ → ℕ → Float → List Float → List Float
less_row i k x b = set b i (at b i ⊖ x ⊗ at b k)
