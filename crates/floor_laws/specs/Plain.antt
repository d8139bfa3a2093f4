-- A call with a floor that came out as the call without one.
use Rattle.std.specs.Prelude.{◌≡◌, List, ℕ, Float}
use Rattle.matrix.specs.declared.Layout.{Layout}
use Rattle.cholesky.specs.declared.Floored.{Floored}
use Rattle.cholesky.specs.Promise.{Extended}

-- the answer and the slice are what `extend` promises, and no column used the floor
pub record AsPlain (y : Layout) (m : ℕ) (l₀ l : List Float) (r : Floored) : Type 0 where
  pub extended : Extended y m l₀ l r.answer
  pub unused : r.used ≡ 0
