-- An answer's code and place come back from its number, while the place is below 4,096; the number 0 is done.
use Rattle.std.specs.Prelude.{◌≡◌, true, ◌<◌, ◌/◌, ◌%◌, Result}
use mathlib.Core.Path.{◌∙◌}
use native.Mathlib.Omega.{arith}
use borrow.Author.Tests.{eq-eqb}
use Rattle.answer.specs.declared.Refusal.{Refusal}
use Rattle.answer.specs.Answer.{is_done}
use Rattle.answer.specs.Number.{code_of, place_of, number_of}
use Rattle.answer.proofs.Done.{done_by_code}

pub code_back : {A : Type 0} (a : Result A Refusal) → place_of a < 4096 → number_of a / 4096 ≡ code_of a
code_back a small = omega arith

pub place_back : {A : Type 0} (a : Result A Refusal) → place_of a < 4096 → number_of a % 4096 ≡ place_of a
place_back a small = omega arith

pub zero_done : {A : Type 0} (a : Result A Refusal) → 0 ≡ number_of a → is_done a ≡ true
zero_done a is = done_by_code a ∙ eq-eqb (code_of a) 0 (omega (arith, is))
