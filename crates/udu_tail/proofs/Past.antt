-- A run past column m stays so. Assumes nothing.
use Rattle.std.specs.Prelude.{Err}
use mathlib.Core.Bool.{Bool, true, false}
use mathlib.Core.Path.{◌≡◌}
use Prim.Native.Nat.{ℕ, ◌≤◌, ◌<◌}
use native.Mathlib.Omega.{arith}
use lib.Ieee.{Float, eq}
use Rattle.answer.specs.declared.Refusal.TheVariants.{ZeroDiagonal}
use Rattle.answer.specs.Answer.{Answer}
use Rattle.matrix.specs.Matrix.{Matrix}
use Rattle.matrix.specs.Loop.{falling}
use Rattle.matrix.specs.Rounded.{plus_zero}
use Rattle.matrix.proofs.Loops.{falling_keeps}
use Rattle.udu.specs.Columns.{udu_diagonal, UduRun, accepted, refused, column_by, udu_column}
use Rattle.udu.specs.Promise.{udu_answer}
use Rattle.udu_tail.specs.Tail.{Past, finished, refused_before}

-- refused neither at m nor at a column behind it
pub not_from : {m j : ℕ} {r : Answer} → Past m r → m ≤ j → r ≡ Err (ZeroDiagonal j) → ⊥
not_from finished from e = let z : ◌≡◌ {A = ℕ} 0 1 = cc in omega arith
not_from {m} {j} (refused_before {j = i} less) from e = let same : i ≡ j = cc in omega arith

module _ (n : ℕ) (P : Matrix) (m : ℕ) where
  past_column : (R : UduRun) (j : ℕ) → j < m → Past m (udu_answer R) → Past m (udu_answer (udu_column n P j R))
  unfolding udu_column
  past_column (accepted F) j less past = by (udu_diagonal n P F j) (eq (udu_diagonal n P F j) plus_zero)
    where
      by : (x : Float) (b : Bool) → Past m (udu_answer (column_by n P F j x b))
      by x true = refused_before less
      by x false = finished
  past_column (refused k F) j less past = past

  pub past_more : (R : UduRun) → Past m (udu_answer R) → Past m (udu_answer (falling m (udu_column n P) R))
  past_more R past = falling_keeps (λ i S. Past m (udu_answer S)) m (udu_column n P) R past (λ j S less is. past_column S j less is)
