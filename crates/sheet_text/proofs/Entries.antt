-- The loop over the entry lines: what is known at each turn, and how a turn keeps it.
use Rattle.std.proofs.Common.{◌≡◌, ℕ, ◌+◌, ◌≤◌, true, false, List, [], ◌∷◌, length, drop, refl, ap, ◌∙◌, arith}
use Rattle.std.proofs.Math.ListN.{set, length-set}
use Rattle.std.specs.Float.{binary64}
use Rattle.std.specs.Float.Ieee.{Float, of_bits}
use Rattle.sheet_text.specs.declared.place.Place.{Place}
use Rattle.sheet_text.specs.inner.Parse.{found, missing}
use Rattle.sheet_text.specs.Place.{places, cell}
use Rattle.sheet_text.specs.inner.Read.{entry_at, taken, take_entries}
use Rattle.sheet_text.proofs.EntrySteps.{entries_stop, entries_more}
use Rattle.sheet_text.proofs.PlaceLaws.{length_places}
use Rattle.sheet_text.proofs.EachPlace.{Each, InSquare, in_square}

pub record SoFar (s : List ℕ) (at n : ℕ) (a₀ a : List Float) (rest : List Place) (count i : ℕ) : Type 0 where
  pub inside : Each (InSquare n) rest
  pub small : count + length rest ≤ 4096
  pub long : length a ≡ length a₀
  pub same : take_entries n (places n) (drop at s) 0 a₀ ≡ take_entries n rest (drop i s) count a

pub start : (s : List ℕ) (at n : ℕ) (a : List Float) (rest : List Place) → n ≤ 64 → rest ≡ places n → SoFar s at n a a rest 0 at
start s at n a rest h e = rw e record { inside = in_square n; small = omega (arith, length_places n h); long = refl; same = refl }

module _ {s : List ℕ} {at n : ℕ} {a₀ a : List Float} {rest : List Place} {count i : ℕ} (so : SoFar s at n a₀ a rest count i) where
  module _ {p : Place} {others : List Place} (e : rest ≡ p ∷ others) where
    pub more : {b next : ℕ} {a₁ : List Float} → entry_at p (drop i s) ≡ found b (drop next s) → a₁ ≡ set a (cell n p) (of_bits binary64 b) → SoFar s at n a₀ a₁ others (count + 1) next
    more {b} {next} {a₁} read stored =
        rw stored record {
          inside = (rw e at so.inside).1;
          small = omega (arith, so.small, ap length e);
          long = length-set a (cell n p) (of_bits binary64 b) ∙ so.long;
          same =
              so.same
              ∙ ap (λ (ps : List Place). take_entries n ps (drop i s) count a) e
              ∙ entries_more n p others (drop i s) count a b (drop next s) read;
        }

    pub ended_early : entry_at p (drop i s) ≡ missing → take_entries n (places n) (drop at s) 0 a₀ ≡ taken false count (drop i s) a
    ended_early read =
        so.same ∙ ap (λ (ps : List Place). take_entries n ps (drop i s) count a) e ∙ entries_stop n p others (drop i s) count a read

  pub all_read : rest ≡ [] → take_entries n (places n) (drop at s) 0 a₀ ≡ taken true count (drop i s) a
  unfolding take_entries
  all_read e = so.same ∙ ap (λ (ps : List Place). take_entries n ps (drop i s) count a) e
