-- One step, way by way. Assumes nothing.
use mathlib.Core.Path.{◌≡◌, refl, sym, ◌∙◌, ap, subst}
use mathlib.Core.List.{List}
use Prim.Native.Nat.{ℕ, ◌+◌, ◌<◌}
use native.Mathlib.Omega.{arith}
use lib.Ieee.{Float}
use Rattle.matrix.specs.Grid.{Sound, Holds, load}
use Rattle.matrix.specs.Layouts.{lower}
use Rattle.matrix.specs.declared.Layout.{Layout}
use Rattle.matrix.proofs.Grids.{holds_none}
use Rattle.pivots.specs.Words.{paired}
use Rattle.lblt_choice.specs.Choice.{choose}
use Rattle.lblt_pivot.specs.Pivot.{pivot1, pivot2}
use Rattle.lblt.specs.Step.{State, first_mark, take, step}
use Rattle.lblt.specs.inner.Engine.{state_at, Stands}
use Rattle.lblt.specs.declared.Reached.{Reached}
use Rattle.lblt_choice.specs.declared.Choice.{Choice}
use Rattle.lblt_choice.specs.declared.Choice.TheVariants.{ZeroColumn, One, Two}

module _ {y : Layout} {a : List Float} (words : List ℕ) (s : Reached) {r : Choice} (made : r ≡ choose y.order (load (lower y) a) s.row) where
  stands_by : {a' : List Float} {words' : List ℕ} {s' : Reached} {choice : Choice} → r ≡ choice → Stands y a a' words' s' (take y.order (state_at (load (lower y) a) words s) choice) → Stands y a a' words' s' (step y.order (state_at (load (lower y) a) words s))
  unfolding step state_at
  stands_by {a'} {words'} {s'} is stands = subst (λ (S : State). Stands y a a' words' s' S) (ap (take y.order (state_at (load (lower y) a) words s)) (sym is ∙ made)) stands

  pub stands_zero_column : {words' : List ℕ} {mark : ℕ}
      → r ≡ ZeroColumn → Sound (lower y) a → words' ≡ paired words s.row s.row 1 → mark ≡ first_mark s.mark s.row
      → Stands y a a words' (record { row = s.row + 1; mark = mark }) (step y.order (state_at (load (lower y) a) words s))
  unfolding state_at take
  stands_zero_column is sound noted marks = stands_by is (record { matrix = holds_none sound; pairs = noted; row = refl; mark = marks })

  pub stands_one : {a' : List Float} {words' : List ℕ} {p : ℕ}
      → r ≡ One p → Holds (lower y) a a' (pivot1 y.order s.row p (load (lower y) a)) → words' ≡ paired words s.row p 1
      → Stands y a a' words' (record { row = s.row + 1; mark = s.mark }) (step y.order (state_at (load (lower y) a) words s))
  unfolding state_at take
  stands_one is holds noted = stands_by is (record { matrix = holds; pairs = noted; row = refl; mark = refl })

  pub stands_two : {a' : List Float} {words' : List ℕ} {p : ℕ}
      → r ≡ Two p → Holds (lower y) a a' (pivot2 y.order s.row p (load (lower y) a)) → words' ≡ paired (paired words s.row p 2) (s.row + 1) p 2
      → Stands y a a' words' (record { row = s.row + 2; mark = s.mark }) (step y.order (state_at (load (lower y) a) words s))
  unfolding state_at take
  stands_two is holds noted = stands_by is (record { matrix = holds; pairs = noted; row = refl; mark = refl })

-- a step goes on by a row at least
take_rises : (n : ℕ) (S : State) (c : Choice) → S.row < (take n S c).row
unfolding take
take_rises n S ZeroColumn = omega arith
take_rises n S (One p) = omega arith
take_rises n S (Two p) = omega arith

pub step_rises : (n : ℕ) (S : State) → S.row < (step n S).row
unfolding step
step_rises n S = take_rises n S (choose n S.matrix S.row)
