-- Which pivot a step of three rows takes, by the numbers that it looks at. Assumes nothing.
use mathlib.Core.Path.{◌≡◌, refl, ◌∙◌}
use mathlib.Core.Bool.{true, false}
use Prim.Native.Nat.{ℕ}
use lib.Ieee.{Float, lt, le, eq}
use Rattle.leaf.specs.Abs.{abs_of}
use Rattle.leaf.specs.Maximum.{maximum_of}
use Rattle.matrix.specs.Matrix.{Matrix}
use Rattle.matrix.specs.Rounded.{◌⊗◌, ◌⊘◌, plus_zero}
use Rattle.matrix.specs.Loop.{for, turns}
use Rattle.matrix.specs.Grid.{load}
use Rattle.matrix.specs.Layouts.{lower}
use Rattle.lblt_choice.specs.Choice.{α, greater, column_max, along_row, down_column, row_max, contest, choice_by, choose}
use Rattle.lblt_choice.specs.declared.Choice.{Choice}
use Rattle.lblt_choice.specs.declared.Choice.TheVariants.{ZeroColumn, One, Two}
use Rattle.handheld.specs.declared.Triangle.{Triangle}
use Rattle.handheld.specs.inner.Triangle.{matrix_of}
use Rattle.handheld.specs.inner.Choice.{choice_of}

-- ---- by the numbers, way by way

module _ (k : ℕ) (diag colmax : Float) (imax : ℕ) (rowmax other : Float) {largest : Float} (is : largest ≡ maximum_of diag colmax) where
  pub zero_column : eq largest plus_zero ≡ true → ZeroColumn ≡ choice_of k diag colmax imax rowmax other
  unfolding choice_of
  zero_column test = rw (rw is at test)

  module _ (some : eq largest plus_zero ≡ false) where
    pub diagonal_large : lt diag (α ⊗ colmax) ≡ false → One k ≡ choice_of k diag colmax imax rowmax other
    unfolding choice_of
    diagonal_large test = rw (rw is at some, test)

    module _ (small : lt diag (α ⊗ colmax) ≡ true) where
      pub diagonal_wins : le (α ⊗ colmax ⊗ (colmax ⊘ rowmax)) diag ≡ true → One k ≡ choice_of k diag colmax imax rowmax other
      unfolding choice_of
      diagonal_wins test = rw (rw is at some, small, test)

      module _ (lost : le (α ⊗ colmax ⊗ (colmax ⊘ rowmax)) diag ≡ false) {magnitude : Float} (at : magnitude ≡ abs_of other) where
        pub both_small : lt magnitude (α ⊗ rowmax) ≡ true → Two imax ≡ choice_of k diag colmax imax rowmax other
        unfolding choice_of
        both_small test = rw (rw is at some, small, lost, rw at at test)

        pub other_wins : lt magnitude (α ⊗ rowmax) ≡ false → One imax ≡ choice_of k diag colmax imax rowmax other
        unfolding choice_of
        other_wins test = rw (rw is at some, small, lost, rw at at test)

-- ---- in a matrix of order 3

module _ (M : Matrix) where
  two_larger : lt (abs_of (M 1 0)) (abs_of (M 2 0)) ≡ true
      → choice_of 0 (abs_of (M 0 0)) (abs_of (M 2 0)) 2 (maximum_of (maximum_of plus_zero (abs_of (M 2 0))) (abs_of (M 2 1))) (M 2 2) ≡ choose 3 M 0
  unfolding choose choice_by column_max greater row_max along_row down_column contest for turns choice_of
  two_larger e = rw e

  one_stays : lt (abs_of (M 1 0)) (abs_of (M 2 0)) ≡ false
      → choice_of 0 (abs_of (M 0 0)) (abs_of (M 1 0)) 1 (maximum_of (maximum_of plus_zero (abs_of (M 1 0))) (abs_of (M 2 1))) (M 1 1) ≡ choose 3 M 0
  unfolding choose choice_by column_max greater row_max along_row down_column contest for turns choice_of
  one_stays e = rw e

  at_row_one : choice_of 1 (abs_of (M 1 1)) (abs_of (M 2 1)) 2 (maximum_of plus_zero (abs_of (M 2 1))) (M 2 2) ≡ choose 3 M 1
  unfolding choose choice_by column_max greater row_max along_row down_column contest for turns choice_of
  at_row_one = refl

  -- the last row has no rows below it
  pub at_row_two : choice_of 2 (abs_of (M 2 2)) plus_zero 0 (row_max 3 M 2 0) (M 0 0) ≡ choose 3 M 2
  unfolding choose choice_by column_max contest choice_of
  at_row_two = refl

-- ---- in a triangle, by what the code has found

module _ (t : Triangle) {diag one two rest : Float} (diag-is : diag ≡ abs_of t.a00) (one_is : one ≡ abs_of t.a10) (two_is : two ≡ abs_of t.a20) (rest-is : rest ≡ abs_of t.a21) {above rowmax : Float} {r : Choice} where
  pub first_two : lt one two ≡ true → above ≡ maximum_of plus_zero two → rowmax ≡ maximum_of above rest → r ≡ choice_of 0 diag two 2 rowmax t.a22 → r ≡ choose 3 (matrix_of t) 0
  unfolding matrix_of load lower
  first_two test above-is rowmax-is is = rw (rowmax-is, above-is, diag-is, two_is, rest-is) at is ∙ two_larger (matrix_of t) (rw (one_is, two_is) at test)

  pub first_one : lt one two ≡ false → above ≡ maximum_of plus_zero one → rowmax ≡ maximum_of above rest → r ≡ choice_of 0 diag one 1 rowmax t.a11 → r ≡ choose 3 (matrix_of t) 0
  unfolding matrix_of load lower
  first_one test above-is rowmax-is is = rw (rowmax-is, above-is, diag-is, one_is, rest-is) at is ∙ one_stays (matrix_of t) (rw (one_is, two_is) at test)

pub second : (t : Triangle) {diag one rowmax : Float} {r : Choice} → one ≡ abs_of t.a21 → rowmax ≡ maximum_of plus_zero one → diag ≡ abs_of t.a11
    → r ≡ choice_of 1 diag one 2 rowmax t.a22 → r ≡ choose 3 (matrix_of t) 1
unfolding matrix_of load lower
second t one_is rowmax-is diag-is is = rw (rowmax-is, one_is, diag-is) at is ∙ at_row_one (matrix_of t)
