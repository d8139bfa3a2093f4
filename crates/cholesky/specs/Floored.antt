-- What `factor_floored` and `extend_floored` promise.
use Rattle.std.specs.Prelude.{◌≡◌, cond, List, ℕ, Float}
use Rattle.answer.specs.Answer.{is_done}
use Rattle.matrix.specs.declared.Layout.{Layout}
use Rattle.matrix.specs.Grid.{load}
use Rattle.matrix.specs.Layouts.{lower}
use Rattle.matrix.specs.Sizes.{sizes_of}
use Rattle.cholesky.specs.declared.Floored.{Floored}
use Rattle.cholesky.specs.Floor.{floor_rule}
use Rattle.cholesky.specs.Used.{used_by}
use Rattle.cholesky.specs.Promise.{ExtendedBy}

-- how many columns of the matrix in a slice used the floor s; none where it is refused by size
unfoldable pub used_on : Float → Layout → ℕ → List Float → ℕ
used_on s y m l = cond (is_done (sizes_of y m l)) (used_by (floor_rule s) m y.order (load (lower y) l)) 0

-- the rows from m on are factored by the rule with the floor s, and the columns that used it are counted
pub record ExtendedFloored (s : Float) (y : Layout) (m : ℕ) (l₀ l : List Float) (r : Floored) : Type 0 where
  pub extended : ExtendedBy (floor_rule s) y m l₀ l r.answer
  pub used : r.used ≡ used_on s y m l₀
