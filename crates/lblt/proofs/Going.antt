-- All steps: `Going y a₀ words₀ a words s` is the invariant of their loop. Assumes nothing.
use mathlib.Core.Path.{◌≡◌, refl, sym, ◌∙◌, ap}
use mathlib.Core.List.{List}
use Prim.Native.Nat.{ℕ, zero, suc, ◌+◌, ◌≤◌, ◌<◌}
use native.Mathlib.Omega.{arith}
use lib.ListN.{length}
use lib.Ieee.{Float}
use borrow.Author.Tests.{lt-ltb, le-ltb}
use Rattle.matrix.specs.Matrix.{Matrix}
use Rattle.matrix.specs.Grid.{Sound, Holds, load}
use Rattle.matrix.specs.Layouts.{lower}
use Rattle.matrix.specs.declared.Layout.{Layout}
use Rattle.matrix.proofs.Grids.{holds_none, holds_as}
use Rattle.pivots.specs.Words.{Sized}
use Rattle.lblt.specs.Step.{State, step, stepped}
use Rattle.lblt.specs.inner.Engine.{state_at, Stands, Steps}
use Rattle.lblt.specs.Factor.{first_state, final_state}
use Rattle.lblt.specs.declared.Reached.{Reached}
use Rattle.lblt.proofs.Stands.{step_rises}

-- the state that the code stands at
state_is : {M : Matrix} {words : List ℕ} (r : Reached) (S : State) → M ≡ S.matrix → words ≡ S.words → r.row ≡ S.row → r.mark ≡ S.mark → state_at M words r ≡ S
unfolding state_at
state_is r S matrix pairs row mark = rw (matrix, pairs, row, mark)

pub stepped_on : (fuel n : ℕ) (S : State) → S.row < n → stepped (suc fuel) n S ≡ stepped fuel n (step n S)
unfolding stepped
stepped_on fuel n S more = rw (lt-ltb S.row n more)

pub stepped_past : (fuel n : ℕ) (S : State) → n ≤ S.row → stepped fuel n S ≡ S
unfolding stepped
stepped_past zero n S past = refl
stepped_past (suc fuel) n S past = rw (le-ltb S.row n past)

pub record Going (y : Layout) (a₀ : List Float) (words₀ : List ℕ) (a : List Float) (words : List ℕ) (s : Reached) : Type 0 where
  pub fuel : ℕ
  pub enough : y.order ≤ s.row + fuel
  pub sized : Sized y.order words
  pub holds : Holds (lower y) a₀ a (load (lower y) a)
  pub same : stepped fuel y.order (state_at (load (lower y) a) words s) ≡ final_state y.order (load (lower y) a₀) words₀

pub going_none : {y : Layout} {a : List Float} {words : List ℕ} → Sound (lower y) a → Sized y.order words → Going y a words a words (record { row = 0; mark = 0 })
unfolding final_state first_state state_at
going_none {y} good sized = record { fuel = y.order; enough = omega arith; sized = sized; holds = holds_none good; same = refl }

abbrev here : Layout → List Float → List ℕ → Reached → State
here y a words s = state_at (load (lower y) a) words s

-- a step rises
pub rises : {y : Layout} {a a' : List Float} {words' : List ℕ} {s' : Reached} (words : List ℕ) (s : Reached)
    → Stands y a a' words' s' (step y.order (state_at (load (lower y) a) words s)) → s.row < s'.row
unfolding state_at
rises {y} {a} words s stands = omega (arith, step_rises y.order (state_at (load (lower y) a) words s), stands.row)

on : (y : Layout) (a : List Float) (words : List ℕ) (s : Reached) (fuel : ℕ) → s.row < y.order → stepped (suc fuel) y.order (here y a words s) ≡ stepped fuel y.order (step y.order (here y a words s))
unfolding state_at
on y a words s fuel more = stepped_on fuel y.order (here y a words s) more

module _ {y : Layout} {a₀ a a' : List Float} {words₀ words words' : List ℕ} {s s' : Reached} where
  pub going_more : Going y a₀ words₀ a words s → s.row < y.order → length words' ≡ length words
      → Stands y a a' words' s' (step y.order (state_at (load (lower y) a) words s)) → Going y a₀ words₀ a' words' s'
  going_more g more long stands = by g.fuel g.enough g.same
    where
      by : (fuel : ℕ) → y.order ≤ s.row + fuel → stepped fuel y.order (here y a words s) ≡ final_state y.order (load (lower y) a₀) words₀ → Going y a₀ words₀ a' words' s'
      by zero enough same = absurd (omega arith)
      by (suc fuel) enough same =
          let up = rises words s stands in
          record {
            fuel = fuel;
            enough = omega arith;
            sized = record { order = g.sized.order; total = long ∙ g.sized.total };
            holds = record { sound = stands.matrix.sound; cells = refl; kept = λ p free. stands.matrix.kept p free ∙ g.holds.kept p free };
            same =
                ap (stepped fuel y.order) (state_is s' (step y.order (here y a words s)) stands.matrix.cells stands.pairs stands.row stands.mark)
                ∙ sym (on y a words s fuel more) ∙ same;
          }

pub going_all : {y : Layout} {a₀ a : List Float} {words₀ words : List ℕ} {s : Reached}
    → Going y a₀ words₀ a words s → y.order ≤ s.row → Steps y a₀ words₀ a words s.mark
unfolding state_at
going_all {y} {a₀} {a} {words₀} {words} {s} g past =
    let is : state_at (load (lower y) a) words s ≡ final_state y.order (load (lower y) a₀) words₀ = sym (stepped_past g.fuel y.order (state_at (load (lower y) a) words s) past) ∙ g.same in
    record {
      matrix = holds_as g.holds (ap (λ (S : State). S.matrix) is);
      pairs = ap (λ (S : State). S.words) is;
      mark = ap (λ (S : State). S.mark) is;
    }
