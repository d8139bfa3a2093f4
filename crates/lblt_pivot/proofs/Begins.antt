-- A loop over rows whose first row may have been done before it. Assumes nothing.
use mathlib.Core.List.{List}
use Prim.Native.Nat.{ℕ, ◌+◌, ◌<◌}
use native.Mathlib.Omega.{arith}
use lib.Ieee.{Float}
use Rattle.matrix.specs.Matrix.{Matrix}
use Rattle.matrix.specs.Grid.{Sound, load, Holds}
use Rattle.matrix.specs.Layouts.{lower}
use Rattle.matrix.specs.Loop.{for}
use Rattle.matrix.specs.declared.Layout.{Layout}
use Rattle.matrix.proofs.Loops.{for_join}
use Rattle.matrix.proofs.Grids.{Turned, turned_none, turned_more, holds_then, holds_as}
use Rattle.lblt_pivot.specs.inner.Engine.{Begun}

module _ {y : Layout} {row : ℕ} {f : ℕ → Matrix → Matrix} {a : List Float} where
  pub begun_none : Sound (lower y) a → row < y.order → Begun y row f a row a
  begun_none good below = let t : Turned (lower y) row y.order f a row a = turned_none good (omega arith) in record { from = t.from; upto = t.upto; holds = t.holds }

  pub begun_one : {a' : List Float} → Sound (lower y) a → row < y.order → Holds (lower y) a a' (f row (load (lower y) a)) → Begun y row f a (row + 1) a'
  begun_one {a'} good below first =
      let t : Turned (lower y) row y.order f a (row + 1) a' = turned_more (turned_none good (omega arith)) below first in
      record { from = t.from; upto = t.upto; holds = t.holds }

  -- the other rows
  pub begun_all : {i : ℕ} {a' a'' : List Float} → Begun y row f a i a' → Holds (lower y) a' a'' (for i y.order f (load (lower y) a')) → Holds (lower y) a a'' (for row y.order f (load (lower y) a))
  begun_all {i} begun rest =
      holds_as (holds_then (λ (M : Matrix). for i y.order f M) begun.holds rest) (for_join row i y.order f (load (lower y) a) begun.from begun.upto)
