-- What a step asks of its slices.
use Rattle.std.specs.Prelude.{List, ◌≡◌, ℕ, ◌*◌, Float, length}
use Rattle.matrix.specs.declared.Layout.{Layout}
use Rattle.matrix.specs.Layouts.{Laid}

-- a factor and a column of right-hand sides
pub record Sides (y : Layout) (a b : List Float) : Type 0 where
  pub factor : Laid y a
  pub long : length b ≡ y.order

-- a factor and columns of right-hand sides
pub record RowSides (y : Layout) (columns : ℕ) (a b : List Float) : Type 0 where
  pub factor : Laid y a
  pub long : length b ≡ y.order * columns
