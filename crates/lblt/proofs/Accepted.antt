-- The record that `factor` writes is accepted by the check, its mark is 0 or names a row of size 1 whose index is its own row, and its run number is the given one.
-- Assumes nothing.
use mathlib.Core.Path.{◌≡◌, refl, sym, ◌∙◌, ap, subst}
use mathlib.Core.Bool.{Bool, true, false, cond}
use mathlib.Core.List.{List}
use mathlib.Core.Logic.{◌⊎◌, inl, inr, ⊎_elim}
use Prim.Native.Nat.{ℕ, zero, suc, ◌+◌, ◌≤◌, ◌<◌}
use native.Mathlib.Omega.{arith}
use lib.Dec.{ltb, eqb}
use lib.Ieee.{Float}
use borrow.Author.Tests.{ltb-true, ltb-false, eqb-true}
use Rattle.answer.specs.Answer.{Answer, is_done}
use Rattle.matrix.specs.Matrix.{Matrix}
use Rattle.matrix.specs.Grid.{load}
use Rattle.matrix.specs.Layouts.{lower}
use Rattle.matrix.specs.declared.Layout.{Layout}
use Rattle.answer.proofs.Tests.{either, eq_or_ne}
use Rattle.pivots.specs.Words.{mark_at, run_at, Sized, paired}
use Rattle.pivots.specs.Rule.{Accepted}
use Rattle.pivots.proofs.Boundaries.{Marks, mark_row}
use Rattle.pivots.proofs.Written.{Written, written_none, written_one, written_two_law, written_zero, written_all, written_run}
use Rattle.lblt_choice.specs.Choice.{choose}
use Rattle.lblt.specs.Step.{State, first_mark, take, step, stepped}
use Rattle.lblt.specs.Factor.{first_state, final_state, recorded, Factored}
use Rattle.lblt_choice.specs.declared.Choice.{Choice}
use Rattle.lblt_choice.specs.declared.Choice.TheVariants.{ZeroColumn, One, Two}
use Rattle.lblt_choice.proofs.Range.{Within, choose_range}
use Rattle.lblt.proofs.Stands.{step_rises}
use Rattle.lblt.proofs.Done.{done_sized}

module _ (n : ℕ) where
  written_zero_column : {words : List ℕ} {k m : ℕ} (b : Bool) → eqb m 0 ≡ b → Written n words k m → k < n → Written n (paired words k k 1) (k + 1) (cond (eqb m 0) (k + 1) m)
  written_zero_column {words} {k} {m} true e w h = rw e (written_zero (subst (λ (m : ℕ). Written n words k m) (eqb-true m 0 e) w) h)
  written_zero_column {words} {k} {m} false e w h = rw e (written_one k w (omega arith) h)

  written_take : (S : State) (c : Choice) → Written n S.words S.row S.mark → S.row < n → Within n S.row c → Written n (take n S c).words (take n S c).row (take n S c).mark
  unfolding take Within first_mark
  written_take S ZeroColumn w h range = written_zero_column (eqb S.mark 0) refl w h
  written_take S (One p) w h range = written_one p w range.0 range.1
  written_take S (Two p) w h range = written_two_law p w (omega (arith, range.0)) range.1

  written_step : (S : State) → Written n S.words S.row S.mark → S.row < n → Written n (step n S).words (step n S).row (step n S).mark
  unfolding step
  written_step S w h = written_take S (choose n S.matrix S.row) w h (choose_range n S.matrix S.row h)

  at_the_end_law : (S : State) → Written n S.words S.row S.mark → n ≤ S.row → Written n S.words n S.mark
  at_the_end_law S w past = subst (λ (k : ℕ). Written n S.words k S.mark) (omega (arith, w.within)) w

  written_stepped : (fuel : ℕ) (S : State) → Written n S.words S.row S.mark → n ≤ S.row + fuel → Written n (stepped fuel n S).words n (stepped fuel n S).mark
  unfolding stepped
  written_stepped zero S w enough = at_the_end_law S w (omega arith)
  written_stepped (suc fuel) S w enough =
      either (λ (X : State). Written n X.words n X.mark) (ltb S.row n)
      (λ more. written_stepped fuel (step n S) (written_step S w (ltb-true S.row n more)) (omega (arith, step_rises n S)))
      (λ past. at_the_end_law S w (ltb-false S.row n past))

  module _ (M : Matrix) (words : List ℕ) (sized : Sized n words) where
    written : Written n (final_state n M words).words n (final_state n M words).mark
    unfolding final_state first_state
    written = written_stepped n (first_state M words) (written_none sized) (omega arith)

    pub accepted : (run : ℕ) → Accepted n (recorded n run M words)
    unfolding recorded
    accepted run = written_all run written

    pub recorded_run : (run : ℕ) → run_at n (recorded n run M words) ≡ run
    unfolding recorded
    recorded_run run = written_run run written

-- of `factor`'s promise
module _ {y : Layout} {run : ℕ} {a : List Float} {words : List ℕ} {r : Answer} {a' : List Float} {words' : List ℕ} (f : Factored y run a words r a' words') (done : is_done r ≡ true) where
  sized : Sized y.order words
  sized = done_sized y a words (ap is_done (sym f.answer) ∙ done)

  pub factor_accepted : Accepted y.order words'
  factor_accepted = subst (Accepted y.order) (sym (f.left.done done).pivots) (accepted y.order (load (lower y) a) words sized run)

  pub factor_marks : (mark_at y.order words' ≡ 0) ⊎ Marks words' y.order (mark_at y.order words')
  factor_marks = ⊎_elim inl (λ set. inr (mark_row factor_accepted set)) (eq_or_ne (mark_at y.order words') 0)

  pub factor_run : run_at y.order words' ≡ run
  factor_run = ap (run_at y.order) (f.left.done done).pivots ∙ recorded_run y.order (load (lower y) a) words sized run
