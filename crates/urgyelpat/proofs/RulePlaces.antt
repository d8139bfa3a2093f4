-- The places that the rule of a pivot record answers: a row, or the order. Assumes nothing.
use Rattle.std.proofs.Common.{Result, Err, List, ◌≡◌, ℕ, ◌<◌, arith, leb}
use borrow.Author.Tests.{leb-false}
use Rattle.answer.specs.declared.Refusal.{Refusal}
use Rattle.answer.specs.Number.{refusal_place}
use Rattle.answer.specs.Refusals.{tested}
use Rattle.answer.proofs.Within.{Within, within_test}
use Rattle.pivots.specs.Rule.{fault_of, sound_mark, rule_tests}

-- a broken rule is answered by `broken` with its place; r comes after
pub rule_within
    : {A : Type 0} (broken : ℕ → Refusal) → ((place : ℕ) → refusal_place (broken place) ≡ place) → (n : ℕ) (words : List ℕ) (r : Result A Refusal) → Within n r
    → Within n (tested (rule_tests broken n words) r)
unfolding tested
rule_within broken names n words r within =
    within_test n (leb n (fault_of n words)) _ (Err (broken (fault_of n words)))
    (λ rows. within_test n (sound_mark n words) r (Err (broken n)) (λ sound. within) (λ unsound. omega (arith, names n)))
    (λ row. let below : fault_of n words < n = leb-false n (fault_of n words) row in omega (arith, names (fault_of n words)))
