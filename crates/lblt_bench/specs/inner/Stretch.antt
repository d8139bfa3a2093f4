-- A stretch of columns that have one bench number, and one step over the columns.
use Rattle.std.specs.Prelude.{List, Option, ◌≡◌, ◌==◌, ℕ, ◌<◌, ◌≤◌, not, Float, length, get_or, position}
use Rattle.matrix.specs.Loop.{for}
use Rattle.matrix.specs.Columns.{at_chosen}
use Rattle.lblt_bench.specs.Bench.{owns}

-- the columns from `from` on and before `end` have this number
pub record Stretch (benches : List ℕ) (number «from» end : ℕ) : Type 0 where
  pub begins : «from» ≤ end
  pub ends : end ≤ length benches
  pub all : (i : ℕ) → «from» ≤ i → i < end → get_or benches i 0 ≡ number

-- where the first column stands that has another number
unfoldable pub first_other : ℕ → List ℕ → Option ℕ
first_other number benches = position (λ b. not (b == number)) benches

-- the columns from j on and before r are gone through, at least one: f is applied to those that are the bench's
pub record Gone (n : ℕ) (f : List Float → List Float) (benches : List ℕ) (bench j r : ℕ) (b b' : List Float) : Type 0 where
  pub onward : j < r
  pub within : r ≤ length benches
  pub columns : b' ≡ for j r (at_chosen n (owns benches bench) f) b
