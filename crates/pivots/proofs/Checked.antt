-- What the check answers, by what is found: a law for each way out. `rule_by`: the rule with another refusal answers by the check's place.
use Rattle.std.specs.Prelude.{Result, Err}
use mathlib.Core.Bool.{Bool, true, false, cond, and-false}
use mathlib.Core.List.{List}
use mathlib.Core.Path.{◌≡◌, refl, sym, ◌∙◌}
use Prim.Native.Nat.{ℕ, ◌-◌, ◌<◌, ◌≤◌}
use native.Mathlib.Omega.{arith}
use lib.Dec.{eqb, leb}
use borrow.Author.Tests.{eq-eqb, ne_eqb, le-leb, lt-leb}
use Rattle.answer.specs.declared.Refusal.{Refusal}
use Rattle.answer.specs.declared.Refusal.TheVariants.{BadRecord}
use Rattle.answer.specs.Answer.{Done, is_done}
use Rattle.answer.specs.Number.{place_of}
use Rattle.pivots.specs.Words.{index_at, size_at, mark_at}
use Rattle.answer.specs.Refusals.{tested}
use Rattle.pivots.specs.Rule.{fault_of, own_pivot, sound_mark, rule_tests, checked}

module _ (n : ℕ) (words : List ℕ) where
  pub row_broken : {row : ℕ} → row ≡ fault_of n words → row < n → Err (BadRecord row) ≡ checked n words
  unfolding checked tested
  row_broken {row} e below = simp (← e, lt-leb n row below)

  module _ (rows : n ≤ fault_of n words) {mark : ℕ} (reads : mark ≡ mark_at n words) where
    pub unmarked : mark ≡ 0 → Done ≡ checked n words
    unfolding checked tested
    unmarked none = simp (le-leb n (fault_of n words) rows, ← reads, none)

    pub mark_above : n < mark → Err (BadRecord n) ≡ checked n words
    unfolding checked tested
    mark_above above = simp (le-leb n (fault_of n words) rows, ← reads, ne_eqb mark 0 (λ e. omega arith), lt-leb mark n above)

    module _ (set : 0 < mark) (below : mark ≤ n) where
      by_its_row : checked n words ≡ cond (own_pivot words (mark - 1)) Done (Err (BadRecord n))
      unfolding checked tested
      by_its_row = simp (le-leb n (fault_of n words) rows, ← reads, ne_eqb mark 0 (λ e. omega arith), le-leb mark n below)

      pub mark_size_broken : (size_at words (mark - 1) ≡ 1 → ⊥) → Err (BadRecord n) ≡ checked n words
      mark_size_broken other = sym (by_its_row ∙ rw (ne_eqb (size_at words (mark - 1)) 1 other))

      pub mark_index_broken : (index_at words (mark - 1) ≡ mark - 1 → ⊥) → Err (BadRecord n) ≡ checked n words
      mark_index_broken other =
          sym (by_its_row ∙ rw (ne_eqb (index_at words (mark - 1)) (mark - 1) other, and-false (eqb (size_at words (mark - 1)) 1)))

      pub mark_sound : size_at words (mark - 1) ≡ 1 → index_at words (mark - 1) ≡ mark - 1 → Done ≡ checked n words
      mark_sound one own = sym (by_its_row ∙ rw (one, eq-eqb (index_at words (mark - 1)) (mark - 1) own))

  -- ---- with another refusal

  pub rule_by
      : {A : Type 0} (broken : ℕ → Refusal) (r : Result A Refusal)
      → tested (rule_tests broken n words) r ≡ cond (is_done (checked n words)) r (Err (broken (place_of (checked n words))))
  unfolding checked tested
  rule_by {A} broken r = by (leb n (fault_of n words)) (sound_mark n words)
    where
      by : (rows mark : Bool)
          → cond rows (cond mark r (Err (broken n))) (Err (broken (fault_of n words)))
          ≡ cond (is_done (cond rows (cond mark Done (Err (BadRecord n))) (Err (BadRecord (fault_of n words))))) r
          (Err (broken (place_of (cond rows (cond mark Done (Err (BadRecord n))) (Err (BadRecord (fault_of n words)))))))
      by true true = refl
      by true false = refl
      by false mark = refl
