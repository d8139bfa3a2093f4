-- Step k, and all steps.
use Rattle.std.specs.Prelude.{cond, List, ℕ, zero, suc, ◌+◌, ltb, eqb}
use Rattle.matrix.specs.Matrix.{Matrix}
use Rattle.pivots.specs.Words.{paired}
use Rattle.lblt_choice.specs.Choice.{choose}
use Rattle.lblt_pivot.specs.Pivot.{pivot1, pivot2}
use Rattle.lblt_choice.specs.declared.Choice.{Choice}
use Rattle.lblt_choice.specs.declared.Choice.TheVariants.{ZeroColumn, One, Two}

-- `mark` is 0, or the first marked row + 1
pub record State : Type 0 where
  pub matrix : Matrix
  pub words : List ℕ
  pub row : ℕ
  pub mark : ℕ

-- the mark is set if unset
unfoldable pub first_mark : ℕ → ℕ → ℕ
first_mark mark k = cond (eqb mark 0) (k + 1) mark

-- the state after a choice
unfoldable pub take : ℕ → State → Choice → State
take n s ZeroColumn =
    record { matrix = s.matrix; words = paired s.words s.row s.row 1; row = s.row + 1; mark = first_mark s.mark s.row }
take n s (One p) =
    record { matrix = pivot1 n s.row p s.matrix; words = paired s.words s.row p 1; row = s.row + 1; mark = s.mark }
take n s (Two p) =
    record {
      matrix = pivot2 n s.row p s.matrix;
      words = paired (paired s.words s.row p 2) (s.row + 1) p 2;
      row = s.row + 2;
      mark = s.mark;
    }

unfoldable pub step : ℕ → State → State
step n s = take n s (choose n s.matrix s.row)

-- steps while rows are left, at most `fuel`
unfoldable pub stepped : ℕ → ℕ → State → State
stepped zero n s = s
stepped (suc fuel) n s = cond (ltb s.row n) (stepped fuel n (step n s)) s
