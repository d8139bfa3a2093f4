-- What `first_twin_since` answers for some slices of two rows, and so `first_twin`. Assumes nothing.
use Rattle.std.proofs.Common.{Some, None, Ok, ◌≡◌, refl, sym, ◌∙◌, ap, subst, true, true≢false, List, ℕ, ◌≤◌, ◌<◌, arith, lit<, Float}
use native.Mathlib.Decide.{dec_le}
use lib.Ieee.{binary64, of_bits, eq}
use Rattle.answer.specs.Answer.{is_done}
use Rattle.answer.specs.Refusals.{tested}
use Rattle.matrix.specs.Matrix.{Matrix}
use Rattle.matrix.specs.Grid.{load}
use Rattle.matrix.specs.Layouts.{start_of, size_of, in_lower, place_in, lower}
use Rattle.twins.specs.Twins.{symmetric, Twins}
use Rattle.twins.specs.First.{rows_in, size_answer, none, pair, FirstTwinSince, FirstTwin}
use Rattle.cases.specs.Calls.{floats}
use Rattle.cases.specs.Twins.{upper_twins, came_twice, came_once, factored_twice, factored_once}

-- ---- two rows, of which the first m came earlier

module _ (m : ℕ) (slice : List ℕ) (fits : is_done (size_answer (floats slice) 2 m 2) ≡ true) where
  abbrev rows : Matrix
  rows = rows_in 2 2 (floats slice)

  no_twins : (Twins 2 rows 0 1 → ⊥) → FirstTwinSince (floats slice) 2 m 2 (Ok None)
  no_twins differ = record {
    refused = λ wrong. absurd (true≢false (sym fits ∙ ap is_done wrong));
    found = λ done. none (λ r s apart since below twins. differ (only r s apart below twins));
  }
    where
      only : (r s : ℕ) → r < s → s < 2 → Twins 2 rows r s → Twins 2 rows 0 1
      only r s apart below twins =
          let first : r ≡ 0 = omega arith in
          let second : s ≡ 1 = omega arith in
          subst (λ (r : ℕ). Twins 2 rows r 1) first (subst (Twins 2 rows r) second twins)

  are_twins : m ≤ 1 → Twins 2 rows 0 1 → FirstTwinSince (floats slice) 2 m 2 (Ok (Some (record { first = 0; second = 1 })))
  are_twins early twins = record {
    refused = λ wrong. absurd (true≢false (sym fits ∙ ap is_done wrong));
    found = λ done. pair (record {
      apart = lit< tt;
      since = early;
      within = lit< tt;
      twins = twins;
      least = λ r s apart since below. absurd (omega arith);
      nearest = λ r below. absurd (omega arith);
    });
  }

-- two rows that agree in both columns
both : (M : Matrix) → symmetric M 1 0 ≡ symmetric M 0 0 → symmetric M 1 1 ≡ symmetric M 0 1 → Twins 2 M 0 1
both M first second k below = by (dec_le k 0)
  where
    by : Dec (k ≤ 0) → symmetric M 1 k ≡ symmetric M 0 k
    by (yes low) = subst (λ (k : ℕ). symmetric M 1 k ≡ symmetric M 0 k) (let is : 0 ≡ k = omega arith in is) first
    by (no high) = subst (λ (k : ℕ). symmetric M 1 k ≡ symmetric M 0 k) (let is : 1 ≡ k = omega arith in is) second

-- ---- twins by the upper part alone, which UDU reads: by the lower part, which `first_twin` reads, they differ in column 0, 1 and 0

pub none_by_the_lower : FirstTwin (floats upper_twins) 2 2 (Ok None)
unfolding tested size_of symmetric load lower in_lower place_in start_of floats of_bits eq
none_by_the_lower = no_twins 0 upper_twins refl (λ same. true≢false (ap (λ (y : Float). eq y (of_bits binary64 0)) (same 0 (lit< tt))))

-- ---- row 1 as a second batch, over the rows as they came

pub second_came_twice : FirstTwinSince (floats came_twice) 2 1 2 (Ok (Some (record { first = 0; second = 1 })))
unfolding tested size_of symmetric load lower in_lower place_in start_of floats
second_came_twice = are_twins 1 came_twice refl (omega arith) (both (rows_in 2 2 (floats came_twice)) refl refl)

pub second_came_once : FirstTwinSince (floats came_once) 2 1 2 (Ok None)
unfolding tested size_of symmetric load lower in_lower place_in start_of floats of_bits eq
second_came_once = no_twins 1 came_once refl (λ same. true≢false (ap (λ (y : Float). eq y (of_bits binary64 0x4000_0000_0000_0000)) (same 0 (lit< tt))))

-- ---- and over a buffer in which row 0 is factored: the twin is missed, and a good row is told

pub twin_missed : FirstTwinSince (floats factored_twice) 2 1 2 (Ok None)
unfolding tested size_of symmetric load lower in_lower place_in start_of floats of_bits eq
twin_missed = no_twins 1 factored_twice refl (λ same. true≢false (ap (λ (y : Float). eq y (of_bits binary64 0x4000_0000_0000_0000)) (same 0 (lit< tt))))

pub twin_invented : FirstTwinSince (floats factored_once) 2 1 2 (Ok (Some (record { first = 0; second = 1 })))
twin_invented = second_came_twice
