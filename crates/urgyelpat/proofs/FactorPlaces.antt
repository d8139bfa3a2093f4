-- The places that LBLT's factor call answers: none. Assumes nothing.
use mathlib.Core.List.{List}
use mathlib.Core.Path.{sym, subst}
use Prim.Native.Nat.{ℕ}
use lib.Ieee.{Float}
use Rattle.answer.specs.Answer.{Answer, Done}
use Rattle.answer.specs.Refusals.{tested}
use Rattle.answer.proofs.Within.{Within, within_none, within_tested}
use Rattle.matrix.specs.declared.Layout.{Layout}
use Rattle.lblt.specs.Factor.{factor_tests, Factored}

answer_within : (y : Layout) (a : List Float) (words : List ℕ) → Within 1024 (tested (factor_tests y a words) Done)
answer_within y a words =
    let none = within_none 1024 in
    within_tested 1024 (factor_tests y a words) Done (none, (none, (none, (none, (none, (none, (none, tt))))))) (λ h. none)

pub factored_within : {y : Layout} {run : ℕ} {a a' : List Float} {words words' : List ℕ} {r : Answer} → Factored y run a words r a' words' → Within 1024 r
factored_within {y} {a} {words = words} x = subst (Within 1024) (sym x.answer) (answer_within y a words)
