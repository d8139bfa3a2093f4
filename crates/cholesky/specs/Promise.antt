-- What `factor` and `extend` promise, over the rule for the diagonal.
use Rattle.std.specs.Prelude.{◌≡◌, List, ℕ, length, Float}
use Rattle.answer.specs.Answer.{Answer, Done}
use Rattle.answer.specs.Refusals.{tested, Leaving}
use Rattle.matrix.specs.declared.Layout.{Layout}
use Rattle.matrix.specs.Grid.{load}
use Rattle.matrix.specs.Layouts.{lower}
use Rattle.matrix.specs.Sizes.{size_tests}
use Rattle.cholesky.specs.Run.{Rule, Outcome, factor_columns}
use Rattle.cholesky.specs.Crate.{crate_rule}
use Rattle.cholesky.specs.Leaves.{Leaves}

-- all columns of the matrix in a slice, the first m rows of which are factored
abbrev pub batch_by : Rule → Layout → ℕ → List Float → Outcome
batch_by ρ y m l = factor_columns ρ m y.order (load (lower y) l)

-- the rows from m on are factored; a refusal by size leaves all as it was
pub record ExtendedBy (ρ : Rule) (y : Layout) (m : ℕ) (l₀ l : List Float) (r : Answer) : Type 0 where
  pub answer : r ≡ tested (size_tests y m (length l₀)) (batch_by ρ y m l₀).answer
  pub left : Leaving (tested (size_tests y m (length l₀)) Done) (Leaves y l₀ l (batch_by ρ y m l₀).cells) (l ≡ l₀)

-- by the crate's own rule
abbrev pub batch : Layout → ℕ → List Float → Outcome
batch = batch_by crate_rule

abbrev pub Extended : Layout → ℕ → List Float → List Float → Answer → Type 0
Extended = ExtendedBy crate_rule
