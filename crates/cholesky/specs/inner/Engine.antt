-- What the engine's parts promise to each other.
use Rattle.std.specs.Prelude.{◌≡◌, Bool, true, cond, not, ◌&&◌, List, ℕ, ◌+◌, ◌≤◌, ◌<◌, Float, Result, IfOk}
use Rattle.std.specs.Result.{result_unwrap_or}
use Rattle.std.specs.Float.Ieee.{neg}
use Rattle.answer.specs.declared.Refusal.{Refusal}
use Rattle.answer.specs.Answer.{Answer, answer_of, is_done}
use Rattle.matrix.specs.declared.Layout.{Layout}
use Rattle.matrix.specs.Matrix.{Matrix}
use Rattle.matrix.specs.Loop.{for}
use Rattle.matrix.specs.Grid.{load}
use Rattle.matrix.specs.Layouts.{start_of, lower}
use Rattle.strips.specs.declared.Source.{Source}
use Rattle.cholesky.specs.declared.Floored.{Floored}
use Rattle.cholesky.specs.declared.engine.Verdict.{Verdict}
use Rattle.cholesky.specs.Column.{less}
use Rattle.cholesky.specs.Run.{Rule, Outcome, judged_column, factor_column, started, factor_columns}
use Rattle.cholesky.specs.Leaves.{Leaves}
use Rattle.cholesky.specs.Floor.{passes}
use Rattle.cholesky.specs.Used.{used_from, used_by}

-- rows from r on of column j, from the diagonal down
pub record Reach (y : Layout) (r j : ℕ) : Type 0 where
  pub from : j ≤ r
  pub upto : r ≤ y.order
  pub column : j < y.order

-- column k, times −l(j,k)
pub record Sourced (y : Layout) (l : List Float) (j k : ℕ) (s : Source) : Type 0 where
  pub start : s.start ≡ start_of y k
  pub scale : s.scale ≡ neg (load (lower y) l j k)

-- row i of column j, less what the columns lo to hi take
unfoldable pub less_columns : Matrix → ℕ → ℕ → ℕ → ℕ → Float
unfolding less
less_columns M j lo hi i = for lo hi (less M i j) (M i j)

-- 1 for a finished column whose diagonal d fails its test
abbrev pub used_once : Bool → Float → ℕ
used_once finished d = cond (finished && not (passes d)) 1 0

-- the diagonal d of column j is judged by the rule, and counted where it passes though it fails its own test
pub record Judgement (ρ : Rule) (d : Float) (j : ℕ) (r : Result Verdict Refusal) : Type 0 where
  pub answer : answer_of r ≡ ρ.verdict d j
  pub root : IfOk r (λ v. v.root ≡ ρ.root d)
  pub used : IfOk r (λ v. v.used ≡ used_once true d)

-- the answer is the outcome's, and so is what is left
pub record Ends (y : Layout) (l₀ l : List Float) (r : Answer) (o : Outcome) : Type 0 where
  pub answer : r ≡ o.answer
  pub leaves : Leaves y l₀ l o.cells

-- how many columns used the floor, none where refused
abbrev pub count_of : Result ℕ Refusal → ℕ
count_of r = result_unwrap_or r 0

-- the updated column j is judged, and counted
pub record Finished (ρ : Rule) (y : Layout) (j : ℕ) (l₀ l : List Float) (r : Result ℕ Refusal) : Type 0 where
  pub ends : Ends y l₀ l (answer_of r) (judged_column ρ j (load (lower y) l₀))
  pub used : count_of r ≡ used_once (is_done (judged_column ρ j (load (lower y) l₀)).answer) (load (lower y) l₀ j j)

-- column j is worked on and counted
pub record Advanced (ρ : Rule) (y : Layout) (m j : ℕ) (l₀ l : List Float) (r : Result ℕ Refusal) : Type 0 where
  pub ends : Ends y l₀ l (answer_of r) (factor_column ρ m j (started (load (lower y) l₀)))
  pub used : count_of r ≡ used_from ρ m j (j + 1) (started (load (lower y) l₀))

-- all columns, worked on and counted
pub record RanThrough (ρ : Rule) (y : Layout) (m : ℕ) (l₀ l : List Float) (r : Floored) : Type 0 where
  pub ends : Ends y l₀ l r.answer (factor_columns ρ m y.order (load (lower y) l₀))
  pub used : r.used ≡ used_by ρ m y.order (load (lower y) l₀)

-- column j of M
abbrev pub down : Matrix → ℕ → ℕ → Float
down M j i = M i j
