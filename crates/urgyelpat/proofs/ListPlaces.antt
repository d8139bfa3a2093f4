-- The places that the two calls on LAPACK pivot lists answer. Assumes nothing.
use Rattle.std.proofs.Common.{Result, Ok, List, ◌++◌, refl, sym, subst, ℕ, ◌≤◌, arith, ℤ}
use borrow.Author.Tests.{leb-true}
use Rattle.answer.specs.declared.Refusal.{Refusal}
use Rattle.answer.specs.declared.Refusal.TheVariants.{BadRecord, BadList}
use Rattle.answer.specs.Answer.{Answer, Done}
use Rattle.answer.specs.Refusals.{Test, tested}
use Rattle.answer.proofs.Tested.{tested_join}
use Rattle.answer.proofs.Within.{Within, within_none, within_tested}
use Rattle.pivots_lapack.specs.declared.Stamp.{Stamp}
use Rattle.pivots_lapack.specs.Calls.{slice_tests, ListRead, ListWritten}
use Rattle.urgyelpat.proofs.RulePlaces.{rule_within}

module _ {A : Type 0} (n : ℕ) (list : List ℤ) (words : List ℕ) (more : List Test) (r : Result A Refusal) where
  list_within : Within n (tested more r) → Within 1024 (tested (slice_tests n list words ++ more) r)
  list_within within =
      let none = within_none 1024 in
      subst (Within 1024) (sym (tested_join (slice_tests n list words) more r))
      (within_tested 1024 (slice_tests n list words) (tested more r) (none, (none, (none, tt)))
      (λ holds. let order : n ≤ 1024 = leb-true n 1024 holds.0 in omega (arith, within)))

pub read_within : {n run : ℕ} {list : List ℤ} {info : ℤ} {words words' : List ℕ} {r : Answer} → ListRead n run list info words r words' → Within 1024 r
read_within {n} {run} {list} {info} {words} x =
    subst (Within 1024) (sym x.answer) (list_within n list words _ Done (rule_within BadList (λ place. refl) n _ Done (within_none n)))

pub written_within : {n : ℕ} {words : List ℕ} {list list' : List ℤ} {r : Result Stamp Refusal} → ListWritten n words list r list' → Within 1024 r
written_within {n} {words} {list} x = subst (Within 1024) (sym x.answer) (list_within n list words _ (Ok _) (rule_within BadRecord (λ place. refl) n words (Ok _) (within_none n)))
