-- What a call leaves in a lent slice.
use Rattle.std.specs.Prelude.{List, Float}
use Rattle.matrix.specs.declared.Layout.{Layout}
use Rattle.matrix.specs.Matrix.{Matrix}
use Rattle.matrix.specs.Grid.{Holds, mask}
use Rattle.matrix.specs.Layouts.{lower}

-- the lower triangle of l is that of M, and all else is as in l₀
pub record Leaves (y : Layout) (l₀ l : List Float) (M : Matrix) : Type 0 where
  pub holds : Holds (lower y) l₀ l (mask (lower y) M)
