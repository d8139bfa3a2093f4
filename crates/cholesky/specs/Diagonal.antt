-- Which answer is due to the diagonal d of column j, said twice: by a test for each answer, and by the number itself. `answer_to` gives it (proofs/Diagonal).
use Rattle.std.specs.Prelude.{◌≡◌, true, false, ℕ, zero, suc, Float, Err}
use Rattle.std.specs.Float.{nan, inf, fin}
use Rattle.std.specs.Float.Ieee.{lt, eq, is_nan}
use Rattle.answer.specs.declared.Refusal.TheVariants.{CholeskyZero, CholeskyBelowZero, CholeskyNan}
use Rattle.answer.specs.Answer.{Answer, Done}
use Rattle.matrix.specs.Rounded.{plus_zero}

-- each answer with a test of its own; one fits, and no other
pub data Due (d : Float) (j : ℕ) : Answer → Type 0 where
  above_zero : lt plus_zero d ≡ true → Due d j Done
  is_zero : eq d plus_zero ≡ true → Due d j (Err (CholeskyZero j))
  below_zero : lt d plus_zero ≡ true → Due d j (Err (CholeskyBelowZero j))
  is_a_nan : is_nan d ≡ true → Due d j (Err (CholeskyNan j))

-- `inf s` is an infinity and `fin s m e` is m·2^e, with a minus where s is true
unfoldable pub due_to : Float → ℕ → Answer
due_to nan j = Err (CholeskyNan j)
due_to (inf false) j = Done
due_to (inf true) j = Err (CholeskyBelowZero j)
due_to (fin s zero e) j = Err (CholeskyZero j)
due_to (fin false (suc m) e) j = Done
due_to (fin true (suc m) e) j = Err (CholeskyBelowZero j)
