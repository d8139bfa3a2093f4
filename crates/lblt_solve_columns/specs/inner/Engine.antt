-- What the engine asks of a factor, and the step at a block.
use Rattle.std.specs.Prelude.{List, ◌≡◌, ℕ, Float}
use Rattle.matrix.specs.declared.Layout.{Layout}
use Rattle.matrix.specs.Matrix.{Matrix}
use Rattle.matrix.specs.Layouts.{Laid}
use Rattle.pivots.specs.Rule.{Accepted}
use Rattle.lblt_solve_columns.specs.Column.{forward_block, divide_block}

-- a factor with its record
pub record Readable (y : Layout) (a : List Float) (words : List ℕ) : Type 0 where
  pub factor : Laid y a
  pub accepted : Accepted y.order words

-- a block eliminated and then divided
unfoldable pub reduce_block : ℕ → Matrix → List ℕ → ℕ → List Float → List Float
reduce_block n A words k b = divide_block A words k (forward_block n A words k b)

-- a step that answers the next row and leaves the column as said
pub record Moved (next r : ℕ) (left b : List Float) : Type 0 where
  pub row : r ≡ next
  pub column : b ≡ left
