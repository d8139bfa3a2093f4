-- The crate's own rule: a diagonal passes if it is above zero, and gets its root. Which code another gets is document 02's.
use Rattle.std.specs.Prelude.{cond, ℕ, Float, Err}
use Rattle.std.specs.Float.Ieee.{lt, eq}
use Rattle.answer.specs.declared.Refusal.TheVariants.{CholeskyZero, CholeskyBelowZero, CholeskyNan}
use Rattle.answer.specs.Answer.{Answer, Done}
use Rattle.matrix.specs.Rounded.{plus_zero}
use Rattle.leaf.specs.Root.{root_of}
use Rattle.cholesky.specs.Run.{Rule}

-- what is answered to the diagonal d of column j, `Done` if it passes; what is neither above zero, nor zero, nor below it is NaN
unfoldable pub answer_to : Float → ℕ → Answer
answer_to d j =
    cond (lt plus_zero d) Done
    (cond (eq d plus_zero) (Err (CholeskyZero j))
    (cond (lt d plus_zero) (Err (CholeskyBelowZero j)) (Err (CholeskyNan j))))

abbrev pub crate_rule : Rule
crate_rule = record { verdict = answer_to; root = root_of }
