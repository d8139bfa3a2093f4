-- Stretches of columns that have one bench number.
--     stretch_some, stretch_none   up to the first column that has another number; all columns, where none has
--     stretch_apart         that column has another number
--     gone_other            a step over a stretch that is another bench's
--     gone_one, gone_own    over the first column of one that is the bench's, over all of it
--     gone_on               the columns before a step, and those of the step
use Rattle.std.proofs.Common.{◌≡◌, ◌==◌, ◌+◌, ◌-◌, ◌<◌, ◌≤◌, ℕ, Bool, true, false, true≢false, not, List, Float, length, get_or, take, drop, Some, None, refl, sym, ap, subst, ◌∙◌, ⊎_elim, eq-or-lt_of_le, arith, length-drop}
use Rattle.std.proofs.lemmas.Bool.{not-false}
use Rattle.std.proofs.lemmas.List.{get_or-drop, take_all}
use Rattle.std.proofs.lemmas.List.Quantifiers.{position-Some}
use Rattle.std.proofs.lemmas.List.Sums.{fails_before_first}
use Rattle.std.specs.List.{position_or_len}
use borrow.Author.Tests.{eq-eqb, ne_eqb, eqb-true, ltb-false}
use lib.Dec.{ltb}
use Rattle.matrix.specs.Loop.{for}
use Rattle.matrix.specs.Columns.{at_column, at_chosen}
use Rattle.matrix.proofs.Columns.{chosen_all, chosen_none}
use Rattle.matrix.proofs.Loops.{for_one}
use Rattle.matrix.proofs.Turning.{Turning, turning_on}
use Rattle.lblt_bench.specs.Bench.{owns}
use Rattle.lblt_bench.specs.inner.Stretch.{Stretch, first_other, Gone}

-- the columns from `begin` on
module _ (benches : List ℕ) (number begin : ℕ) (within : begin ≤ length benches) where
  all_on : take (length benches - begin) (drop begin benches) ≡ drop begin benches
  all_on = take_all _ _ (omega (arith, length-drop begin benches))

  -- the first of them are no other one
  stretch_of : (passed : ℕ) → begin + passed ≤ length benches → ((k : ℕ) → k < passed → not (get_or (drop begin benches) k 0 == number) ≡ false) → Stretch benches number begin (begin + passed)
  stretch_of passed room own = record { begins = omega arith; ends = room; all = all }
    where
      all : (i : ℕ) → begin ≤ i → i < begin + passed → get_or benches i 0 ≡ number
      all i low high =
          let place : begin + (i - begin) ≡ i = omega arith in
          let is : get_or (drop begin benches) (i - begin) 0 ≡ get_or benches i 0 = get_or-drop begin benches (i - begin) 0 ∙ ap (λ (k : ℕ). get_or benches k 0) place in
          rw (← is) (eqb-true _ _ (not-false _ (own (i - begin) (omega arith))))

  found : {passed : ℕ} → first_other number (take (length benches - begin) (drop begin benches)) ≡ Some passed
      → (passed < length (drop begin benches)) × (not (get_or (drop begin benches) passed 0 == number) ≡ true) × ((k : ℕ) → k < passed → not (get_or (drop begin benches) k 0 == number) ≡ false)
  unfolding first_other
  found {passed} is = position-Some (λ b. not (b == number)) (drop begin benches) passed 0 (rw all_on at is)

  pub stretch_some : {passed : ℕ} → first_other number (take (length benches - begin) (drop begin benches)) ≡ Some passed → Stretch benches number begin (begin + passed)
  stretch_some {passed} is = stretch_of passed (omega (arith, (found is).0, length-drop begin benches)) (found is).2

  pub stretch_apart : {passed : ℕ} → first_other number (take (length benches - begin) (drop begin benches)) ≡ Some passed → get_or benches (begin + passed) 0 ≡ number → ⊥
  stretch_apart {passed} is same = true≢false (sym (rw (get_or-drop begin benches passed 0, same, eq-eqb number number refl) at (found is).1))

  pub stretch_none : first_other number (take (length benches - begin) (drop begin benches)) ≡ None → Stretch benches number begin (length benches)
  unfolding first_other
  stretch_none is = at (ltb (position_or_len (λ b. not (b == number)) (drop begin benches)) (length (drop begin benches))) refl (rw all_on at is)
    where
      at : (b : Bool) → ltb (position_or_len (λ b. not (b == number)) (drop begin benches)) (length (drop begin benches)) ≡ b → first_other number (drop begin benches) ≡ None → Stretch benches number begin (length benches)
      at true e is =
          let some : first_other number (drop begin benches) ≡ Some (position_or_len (λ b. not (b == number)) (drop begin benches)) = rw e in
          cc
      at false e is =
          let past = ltb-false _ _ e in
          let long = length-drop begin benches in
          let whole : begin + (length benches - begin) ≡ length benches = omega arith in
          rw whole at (stretch_of (length benches - begin) (omega arith) (λ k below. fails_before_first (λ b. not (b == number)) (drop begin benches) k 0 (omega arith)))

module _ {benches : List ℕ} {number : ℕ} where
  -- the column before a stretch, and the stretch
  stretch_with : {j end : ℕ} → get_or benches j 0 ≡ number → Stretch benches number (j + 1) end → (i : ℕ) → j ≤ i → i < end → get_or benches i 0 ≡ number
  stretch_with {j} is s i low high =
      ⊎_elim
      (λ (e : j ≡ i). rw (sym e) is)
      (λ (more : j < i). s.all i (omega arith) high)
      (eq-or-lt_of_le low)

-- ---- a step over the columns

module _ {benches : List ℕ} {bench : ℕ} where
  module _ (n : ℕ) (f : List Float → List Float) (j : ℕ) {number end : ℕ} (is : get_or benches j 0 ≡ number) (s : Stretch benches number (j + 1) end) {b b' : List Float} where
    pub gone_other : (number ≡ bench → ⊥) → b' ≡ b → Gone n f benches bench j end b b'
    gone_other other e =
        record {
          onward = omega (arith, s.begins);
          within = s.ends;
          columns = e ∙ chosen_none n (owns benches bench) f j end b (λ i low high. ne_eqb (get_or benches i 0) bench (λ same. other (sym (stretch_with is s i low high) ∙ same)));
        }

    gone_upto : {r : ℕ} → j < r → r ≤ end → number ≡ bench → b' ≡ for j r (at_column n f) b → Gone n f benches bench j r b b'
    gone_upto {r} onward upto own e =
        record {
          onward = onward;
          within = omega (arith, upto, s.ends);
          columns = e ∙ chosen_all n (owns benches bench) f j r b (λ i low high. eq-eqb (get_or benches i 0) bench (stretch_with is s i low (omega arith) ∙ own));
        }

    pub gone_one : number ≡ bench → b' ≡ at_column n f j b → Gone n f benches bench j (j + 1) b b'
    gone_one own e = gone_upto (omega arith) s.begins own (e ∙ sym (for_one j (at_column n f) b))

    pub gone_own : number ≡ bench → b' ≡ for j (j + (end - j)) (at_column n f) b → Gone n f benches bench j end b b'
    gone_own own e =
        let upto : j + (end - j) ≡ end = omega (arith, s.begins) in
        gone_upto (omega (arith, s.begins)) (omega arith) own (rw upto at e)

  pub gone_on
      : {n : ℕ} {f : List Float → List Float} {j r : ℕ} {b₀ b b' : List Float}
      → Turning 0 (length benches) (at_chosen n (owns benches bench) f) b₀ j b
      → Gone n f benches bench j r b b' → length b' ≡ length b
      → Turning 0 (length benches) (at_chosen n (owns benches bench) f) b₀ r b'
  gone_on {n} {f} {j} {r} {b₀} {b} {b'} before step long =
      let upto : j + (r - j) ≡ r = omega (arith, step.onward) in
      subst (λ (i : ℕ). Turning 0 (length benches) (at_chosen n (owns benches bench) f) b₀ i b') upto
      (turning_on before (r - j) (omega (arith, step.onward, step.within)) (step.columns ∙ ap (λ (i : ℕ). for j i (at_chosen n (owns benches bench) f) b) (sym upto)) long)
