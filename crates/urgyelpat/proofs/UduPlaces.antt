-- The places that UDU answers. Assumes nothing.
use mathlib.Core.Bool.{Bool, true, false}
use mathlib.Core.List.{List}
use mathlib.Core.Path.{sym, subst}
use Prim.Native.Nat.{ℕ, ◌≤◌, ◌<◌}
use native.Mathlib.Omega.{arith}
use borrow.Author.Tests.{leb-true}
use lib.ListN.{length}
use lib.Ieee.{Float, eq}
use Rattle.answer.specs.Answer.{Answer}
use Rattle.answer.proofs.Within.{Within, within_tested}
use Rattle.matrix.specs.Matrix.{Matrix}
use Rattle.matrix.specs.Grid.{load}
use Rattle.matrix.specs.Layouts.{upper}
use Rattle.matrix.specs.Rounded.{plus_zero}
use Rattle.matrix.proofs.Loops.{falling_keeps}
use Rattle.udu.specs.Columns.{Factors, UduRun, accepted, refused, nothing, udu_diagonal, column_by, udu_column, udu_columns}
use Rattle.udu.specs.Promise.{udu_tests, udu_of, udu_answer, UduFactored}

by_within : (n : ℕ) (P : Matrix) (F : Factors) (j : ℕ) (x : Float) (zero? : Bool) → Within j (udu_answer (column_by n P F j x zero?))
by_within n P F j x true = omega arith
by_within n P F j x false = omega arith

column_within : (n : ℕ) (P : Matrix) (j : ℕ) (R : UduRun) → j < n → Within n (udu_answer R) → Within n (udu_answer (udu_column n P j R))
unfolding udu_column
column_within n P j (accepted F) low h =
    let x = udu_diagonal n P F j in
    let at : Within j (udu_answer (column_by n P F j x (eq x plus_zero))) = by_within n P F j x (eq x plus_zero) in
    omega (arith, at, low)
column_within n P j (refused k F) low h = h

columns_within : (n : ℕ) (P : Matrix) → Within n (udu_answer (udu_columns n P))
unfolding udu_columns
columns_within n P =
    falling_keeps (λ i R. Within n (udu_answer R)) n (udu_column n P) (accepted nothing)
    (omega arith) (λ j R low h. column_within n P j R low h)

pub factored_within : {p u₀ d₀ u d : List Float} {n : ℕ} {r : Answer} → UduFactored p u₀ d₀ n r u d → Within 1024 r
unfolding udu_of
factored_within {p} {u₀} {d₀} {n = n} f =
    subst (Within 1024) (sym f.answer)
    (within_tested 1024 (udu_tests n (length p) (length u₀) (length d₀)) (udu_answer (udu_of n p))
    (omega arith, (omega arith, (omega arith, (omega arith, (omega arith, tt)))))
    (λ h. let small : n ≤ 1024 = leb-true n 1024 h.0 in omega (arith, columns_within n (load (upper n) p), small)))
