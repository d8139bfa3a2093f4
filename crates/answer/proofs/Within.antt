-- Answers whose place is at most k. Assumes nothing.
use Rattle.std.specs.Prelude.{◌≡◌, Bool, true, false, cond, List, ℕ, ◌≤◌, Result}
use mathlib.Core.Path.{refl}
use native.Mathlib.Omega.{arith}
use Rattle.answer.specs.declared.Refusal.{Refusal}
use Rattle.answer.specs.Answer.{Done}
use Rattle.answer.specs.Number.{refusal_place, place_of}
use Rattle.answer.specs.Refusals.{Test, tested}
use Rattle.answer.proofs.Tested.{AllHold, Each, tested_each}

abbrev pub Within : {A : Type 0} → ℕ → Result A Refusal → Type 0
Within k r = place_of r ≤ k

pub within_none : (k : ℕ) → Within k Done
within_none k = omega arith

-- one of two answers, by a test
pub within_test : {A : Type 0} (k : ℕ) (t : Bool) (x y : Result A Refusal) → (t ≡ true → Within k x) → (t ≡ false → Within k y) → Within k (cond t x y)
within_test k true x y a b = a refl
within_test k false x y a b = b refl

-- the answer of a list of tests
pub within_tested : {A : Type 0} (k : ℕ) (tests : List Test) (r : Result A Refusal) → Each (λ refusal. refusal_place refusal ≤ k) tests → (AllHold tests → Within k r) → Within k (tested tests r)
within_tested k tests r each last = tested_each (Within k) tests r each last
