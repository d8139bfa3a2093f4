-- All steps of three rows, way by way. Assumes nothing.
use mathlib.Core.Path.{◌≡◌, refl, sym, ◌∙◌, ap, subst}
use mathlib.Core.Bool.{true, false}
use mathlib.Core.List.{List, [], ◌∷◌}
use Prim.Native.Nat.{ℕ, ◌+◌, ◌<◌}
use native.Mathlib.Omega.{arith}
use lib.Ieee.{Float, eq}
use Rattle.leaf.specs.Abs.{abs_of}
use Rattle.leaf.specs.Maximum.{maximum_of}
use Rattle.matrix.specs.Rounded.{plus_zero}
use Rattle.matrix.specs.Matrix.{Matrix}
use Rattle.matrix.specs.Loop.{for, turns}
use Rattle.matrix.specs.Grid.{load}
use Rattle.matrix.specs.Layouts.{packed, lower}
use Rattle.pivots.specs.Words.{paired, marked, stamped}
use Rattle.lblt_choice.specs.Choice.{choose}
use Rattle.lblt_choice.specs.declared.Choice.{Choice}
use Rattle.lblt_choice.specs.declared.Choice.TheVariants.{ZeroColumn, One, Two}
use Rattle.lblt_choice.proofs.Range.{never_below, one_range, two_range}
use Rattle.lblt_pivot.specs.Interchange.{brought1, brought2}
use Rattle.lblt_pivot.specs.Update.{eliminate1, update1, update2}
use Rattle.lblt_pivot.specs.Pivot.{pivot1, pivot2}
use Rattle.lblt.specs.Step.{State, first_mark, take, step, stepped}
use Rattle.lblt.specs.Factor.{first_state, final_state}
use Rattle.lblt.proofs.Inside.{pivot1_low, pivot2_low}
use Rattle.lblt.proofs.Stands.{step_rises}
use Rattle.lblt.proofs.Going.{stepped_on, stepped_past}
use Rattle.handheld.specs.declared.Triangle.{Triangle}
use Rattle.handheld.specs.declared.steps.Stepped.{Stepped}
use Rattle.handheld.specs.Shapes.{record_of}
use Rattle.handheld.specs.inner.Triangle.{matrix_of, triangle_of}
use Rattle.handheld.specs.inner.Choice.{choice_of}
use Rattle.handheld.specs.inner.Steps.{blank, state_of, Comes}
use Rattle.handheld.proofs.Choices.{at_row_two}
use Rattle.handheld.proofs.Triangles.{six_back, six_bare}

-- ---- one step

module _ (t : Triangle) (words : List ℕ) (k mark : ℕ) {c : Choice} (made : c ≡ choose 3 (matrix_of t) k) where
  stepped_by : {choice : Choice} → c ≡ choice → step 3 (state_of t words k mark) ≡ take 3 (state_of t words k mark) choice
  unfolding step state_of
  stepped_by is = ap (take 3 (state_of t words k mark)) (sym made ∙ is)

  step_zero : c ≡ ZeroColumn → step 3 (state_of t words k mark) ≡ state_of t (paired words k k 1) (k + 1) (first_mark mark k)
  unfolding take state_of
  step_zero is = stepped_by is

  step_one : {p : ℕ} {r : Triangle} → k < 3 → c ≡ One p → r ≡ triangle_of (pivot1 3 k p (matrix_of t)) → step 3 (state_of t words k mark) ≡ state_of r (paired words k p 1) (k + 1) mark
  unfolding take state_of
  step_one {p} {r} more is updated =
      let range = one_range (matrix_of t) more made is in
      let same : pivot1 3 k p (matrix_of t) ≡ matrix_of r =
      six_back (pivot1 3 k p (matrix_of t)) (pivot1_low (packed 3) k p (matrix_of t) range.0 range.1 (six_bare t)) ∙ ap matrix_of (sym updated) in
      stepped_by is ∙ ap (λ (M : Matrix). record { matrix = M; words = paired words k p 1; row = k + 1; mark = mark }) same

  step_two : {p : ℕ} {r : Triangle} → k < 3 → c ≡ Two p → r ≡ triangle_of (pivot2 3 k p (matrix_of t))
      → step 3 (state_of t words k mark) ≡ state_of r (paired (paired words k p 2) (k + 1) p 2) (k + 2) mark
  unfolding take state_of
  step_two {p} {r} more is updated =
      let range = two_range (matrix_of t) more made is in
      let same : pivot2 3 k p (matrix_of t) ≡ matrix_of r =
      six_back (pivot2 3 k p (matrix_of t)) (pivot2_low (packed 3) k p (matrix_of t) range.0 range.1 (six_bare t)) ∙ ap matrix_of (sym updated) in
      stepped_by is ∙ ap (λ (M : Matrix). record { matrix = M; words = paired (paired words k p 2) (k + 1) p 2; row = k + 2; mark = mark }) same

comes_as : {r : Stepped} {S S' : State} → S ≡ S' → Comes r S' → Comes r S
comes_as {r} same = subst (Comes r) (sym same)

-- ---- from row 2 on

module _ (t : Triangle) {magnitude largest : Float} (abs_is : magnitude ≡ abs_of t.a22) (max-is : largest ≡ maximum_of magnitude plus_zero) where
  largest_is : largest ≡ maximum_of (abs_of t.a22) plus_zero
  largest_is = rw abs_is at max-is

  third_zero : eq largest plus_zero ≡ true → ZeroColumn ≡ choose 3 (matrix_of t) 2
  unfolding choice_of matrix_of load lower
  third_zero test = let zero : eq (maximum_of (abs_of t.a22) plus_zero) plus_zero ≡ true = rw largest_is at test in sym (rw zero) ∙ at_row_two (matrix_of t)

  third_one : eq largest plus_zero ≡ false → One 2 ≡ choose 3 (matrix_of t) 2
  unfolding choice_of matrix_of load lower
  third_one test =
      let some : eq (maximum_of (abs_of t.a22) plus_zero) plus_zero ≡ false = rw largest_is at test in
      sym (rw (some, never_below t.a22)) ∙ at_row_two (matrix_of t)

  last_own : t ≡ triangle_of (pivot1 3 2 2 (matrix_of t))
  unfolding pivot1 brought1 update1 eliminate1 for turns triangle_of matrix_of load lower
  last_own = refl

  module _ (i0 s0 i1 s1 mark : ℕ) where
    abbrev earlier : List ℕ
    earlier = paired (paired blank 0 i0 s0) 1 i1 s1

    last_step : stepped 1 3 (state_of t earlier 2 mark) ≡ step 3 (state_of t earlier 2 mark)
    unfolding state_of stepped
    last_step = stepped_on 0 3 (state_of t earlier 2 mark) (omega arith)

    ended : (first : ℕ) → Comes (record { lower = t; pivots = record { index = i0 ∷ i1 ∷ 2 ∷ []; size = s0 ∷ s1 ∷ 1 ∷ []; mark = first } }) (state_of t (paired earlier 2 2 1) 3 first)
    unfolding state_of stamped marked paired record_of
    ended first = record { matrix = refl; paired = record { indexes = refl; sizes = refl }; words = refl }

    pub third_marked : {first : ℕ} → eq largest plus_zero ≡ true → first ≡ first_mark mark 2
        → Comes (record { lower = t; pivots = record { index = i0 ∷ i1 ∷ 2 ∷ []; size = s0 ∷ s1 ∷ 1 ∷ []; mark = first } }) (stepped 1 3 (state_of t earlier 2 mark))
    third_marked {first} test marks = comes_as (last_step ∙ step_zero t earlier 2 mark (third_zero test) refl ∙ ap (state_of t (paired earlier 2 2 1) 3) (sym marks)) (ended first)

    pub third_unmarked : eq largest plus_zero ≡ false
        → Comes (record { lower = t; pivots = record { index = i0 ∷ i1 ∷ 2 ∷ []; size = s0 ∷ s1 ∷ 1 ∷ []; mark = mark } }) (stepped 1 3 (state_of t earlier 2 mark))
    third_unmarked test = comes_as (last_step ∙ step_one t earlier 2 mark (third_one test) (omega arith) refl last_own) (ended mark)

-- ---- from row 1 on

module _ (t : Triangle) (i0 mark : ℕ) {c : Choice} (made : c ≡ choose 3 (matrix_of t) 1) where
  abbrev before : List ℕ
  before = paired blank 0 i0 1

  second_step : {S : State} → step 3 (state_of t before 1 mark) ≡ S → stepped 2 3 (state_of t before 1 mark) ≡ stepped 1 3 S
  unfolding state_of
  second_step same = stepped_on 1 3 (state_of t before 1 mark) (omega arith) ∙ ap (stepped 1 3) same

  pub second_zero : {first : ℕ} {r : Stepped} → c ≡ ZeroColumn → first ≡ first_mark mark 1
      → Comes r (stepped 1 3 (state_of t (paired before 1 1 1) 2 first)) → Comes r (stepped 2 3 (state_of t before 1 mark))
  second_zero is marks comes = comes_as (second_step (step_zero t before 1 mark made is ∙ ap (state_of t (paired before 1 1 1) 2) (sym marks))) comes

  pub second_one : {p : ℕ} {u : Triangle} {r : Stepped} → c ≡ One p → u ≡ triangle_of (pivot1 3 1 p (matrix_of t))
      → Comes r (stepped 1 3 (state_of u (paired before 1 p 1) 2 mark)) → Comes r (stepped 2 3 (state_of t before 1 mark))
  second_one is updated comes = comes_as (second_step (step_one t before 1 mark made (omega arith) is updated)) comes

  block_own : t ≡ triangle_of (pivot2 3 1 2 (matrix_of t))
  unfolding pivot2 brought2 update2 for turns triangle_of matrix_of load lower
  block_own = refl

  block_ends : Comes (record { lower = t; pivots = record { index = i0 ∷ 2 ∷ 2 ∷ []; size = 1 ∷ 2 ∷ 2 ∷ []; mark = mark } }) (state_of t (paired (paired before 1 2 2) 2 2 2) 3 mark)
  unfolding state_of stamped marked paired record_of
  block_ends = record { matrix = refl; paired = record { indexes = refl; sizes = refl }; words = refl }

  past : stepped 1 3 (state_of t (paired (paired before 1 2 2) 2 2 2) 3 mark) ≡ state_of t (paired (paired before 1 2 2) 2 2 2) 3 mark
  unfolding state_of
  past = stepped_past 1 3 (state_of t (paired (paired before 1 2 2) 2 2 2) 3 mark) (omega arith)

  pub second_two : {p : ℕ} → c ≡ Two p → Comes (record { lower = t; pivots = record { index = i0 ∷ 2 ∷ 2 ∷ []; size = 1 ∷ 2 ∷ 2 ∷ []; mark = mark } }) (stepped 2 3 (state_of t before 1 mark))
  second_two {p} is =
      let range = two_range (matrix_of t) (omega arith) made is in
      let last : p ≡ 2 = omega (arith, range.0, range.1) in
      comes_as (second_step (step_two t before 1 mark made (omega arith) (is ∙ ap Two last) block_own) ∙ past) block_ends

-- ---- all

module _ (t : Triangle) {c : Choice} (made : c ≡ choose 3 (matrix_of t) 0) where
  first_step : {S : State} → step 3 (state_of t blank 0 0) ≡ S → final_state 3 (matrix_of t) blank ≡ stepped 2 3 S
  unfolding state_of final_state first_state
  first_step same = stepped_on 2 3 (state_of t blank 0 0) (omega arith) ∙ ap (stepped 2 3) same

  pub first_zero : {r : Stepped} → c ≡ ZeroColumn → Comes r (stepped 2 3 (state_of t (paired blank 0 0 1) 1 1)) → Comes r (final_state 3 (matrix_of t) blank)
  unfolding first_mark
  first_zero is comes = comes_as (first_step (step_zero t blank 0 0 made is)) comes

  pub first_one : {p : ℕ} {u : Triangle} {r : Stepped} → c ≡ One p → u ≡ triangle_of (pivot1 3 0 p (matrix_of t))
      → Comes r (stepped 2 3 (state_of u (paired blank 0 p 1) 1 0)) → Comes r (final_state 3 (matrix_of t) blank)
  first_one is updated comes = comes_as (first_step (step_one t blank 0 0 made (omega arith) is updated)) comes

  -- after a block of two one step is left
  one_left : (u : Triangle) (words : List ℕ) → stepped 2 3 (state_of u words 2 0) ≡ stepped 1 3 (state_of u words 2 0)
  unfolding state_of stepped
  one_left u words =
      let S : State = state_of u words 2 0 in
      stepped_on 1 3 S (omega arith) ∙ stepped_past 1 3 (step 3 S) (omega (arith, step_rises 3 S)) ∙ sym (stepped_on 0 3 S (omega arith))

  pub first_two : {p : ℕ} {u : Triangle} {r : Stepped} → c ≡ Two p → u ≡ triangle_of (pivot2 3 0 p (matrix_of t))
      → Comes r (stepped 1 3 (state_of u (paired (paired blank 0 p 2) 1 p 2) 2 0)) → Comes r (final_state 3 (matrix_of t) blank)
  first_two {p} {u} is updated comes = comes_as (first_step (step_two t blank 0 0 made (omega arith) is updated) ∙ one_left u (paired (paired blank 0 p 2) 1 p 2)) comes
