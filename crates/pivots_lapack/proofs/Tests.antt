-- All tests of a call hold, where what is tested is so, and only there: the order, the two slices, and the rule of a record. Assumes nothing.
use Rattle.std.proofs.Common.{◌≡◌, true, List, ◌++◌, ℕ, ◌≤◌, ℤ, length, Result, ap}
use borrow.Author.Tests.{eq-eqb, le-leb, leb-true, eqb-true}
use Rattle.answer.specs.declared.Refusal.{Refusal}
use Rattle.answer.specs.Answer.{Done, is_done}
use Rattle.answer.specs.Refusals.{tested}
use Rattle.answer.proofs.Tested.{tested_all, all_hold}
use Rattle.pivots.specs.Words.{Sized, words_of}
use Rattle.pivots.specs.Rule.{rule_tests, record_tests, checked}
use Rattle.pivots_lapack.specs.Calls.{slice_tests}

pub record Fit (n : ℕ) (list : List ℤ) (words : List ℕ) : Type 0 where
  pub long : length list ≡ n
  pub sized : Sized n words

module _ {A : Type 0} (n : ℕ) (list : List ℤ) (words : List ℕ) (broken : ℕ → Refusal) (kept : List ℕ) (r : Result A Refusal) where
  pub tests_done : is_done (tested (slice_tests n list words ++ rule_tests broken n kept) r) ≡ true → Fit n list words × (is_done (checked n kept) ≡ true)
  unfolding checked
  tests_done done =
      let holds = (all_hold (slice_tests n list words ++ rule_tests broken n kept) r done).0 in (
        record {
          long = eqb-true (length list) n holds.1.0;
          sized = record { order = leb-true n 1024 holds.0; total = eqb-true (length words) (words_of n) holds.1.1.0 };
        },
        ap is_done (tested_all (record_tests n kept) Done holds.1.1.1),
      )

  pub tests_kept : n ≤ 1024 → length list ≡ n → length words ≡ words_of n → is_done (checked n kept) ≡ true → tested (slice_tests n list words ++ rule_tests broken n kept) r ≡ r
  unfolding checked
  tests_kept order long total done =
      tested_all (slice_tests n list words ++ rule_tests broken n kept) r
      (le-leb n 1024 order, (eq-eqb (length list) n long, (eq-eqb (length words) (words_of n) total, (all_hold (record_tests n kept) Done done).0)))
