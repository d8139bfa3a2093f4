-- The choice at row k by the numbers that it looks at: the diagonal's magnitude, the largest of its column and its row imax, the largest of that row,
-- and its diagonal.
use Rattle.std.specs.Prelude.{cond, ℕ, Float}
use Rattle.std.specs.Float.Ieee.{lt, le, eq}
use Rattle.leaf.specs.Abs.{abs_of}
use Rattle.leaf.specs.Maximum.{maximum_of}
use Rattle.matrix.specs.Rounded.{◌⊗◌, ◌⊘◌, plus_zero}
use Rattle.lblt_choice.specs.Choice.{α}
use Rattle.lblt_choice.specs.declared.Choice.{Choice}
use Rattle.lblt_choice.specs.declared.Choice.TheVariants.{ZeroColumn, One, Two}

unfoldable pub choice_of : ℕ → Float → Float → ℕ → Float → Float → Choice
choice_of k diag colmax imax rowmax other =
    cond (eq (maximum_of diag colmax) plus_zero) ZeroColumn
    (cond (lt diag (α ⊗ colmax))
    (cond (le (α ⊗ colmax ⊗ (colmax ⊘ rowmax)) diag) (One k) (cond (lt (abs_of other) (α ⊗ rowmax)) (Two imax) (One imax)))
    (One k))
