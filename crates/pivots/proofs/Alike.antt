-- The check sees the pairs and the mark alone: two records that agree in them are answered alike.
use Rattle.std.specs.Prelude.{Err}
use mathlib.Core.Bool.{Bool, true, false, cond, ◌&&◌, ◌||◌}
use mathlib.Core.List.{List}
use mathlib.Core.Path.{◌≡◌, refl, ap}
use Prim.Native.Nat.{ℕ, zero, suc, ◌+◌, ◌-◌, ◌<◌}
use native.Mathlib.Omega.{arith}
use lib.Dec.{eqb, leb, ltb}
use borrow.Author.Tests.{ltb-true, leb-true, eqb-false}
use Rattle.answer.specs.declared.Refusal.TheVariants.{BadRecord}
use Rattle.answer.specs.Answer.{Done}
use Rattle.answer.specs.Refusals.{tested}
use Rattle.answer.proofs.Tests.{where_tested}
use Rattle.pivots.specs.Words.{index_at, size_at, mark_at}
use Rattle.pivots.specs.Rule.{sound_two, block_of, fault_from, fault_of, own_pivot, checked}
use Rattle.pivots.proofs.SamePairs.{SamePairs}

module _ {n : ℕ} {words words' : List ℕ} (same : SamePairs n words words') where
  -- the pair of row k, and where there is one that of row k + 1
  next_alike : (k : ℕ) (i : ℕ) (b : Bool) → ltb (k + 1) n ≡ b
      → (b && (leb (k + 1) i && (ltb i n && (eqb (index_at words (k + 1)) i && eqb (size_at words (k + 1)) 2))))
      ≡ (b && (leb (k + 1) i && (ltb i n && (eqb (index_at words' (k + 1)) i && eqb (size_at words' (k + 1)) 2))))
  next_alike k i true test =
      let below : k + 1 < n = ltb-true (k + 1) n test in
      rw (same.index (k + 1) below, same.size (k + 1) below)
  next_alike k i false test = refl

  two_alike : (k : ℕ) → k < n → sound_two n words k ≡ sound_two n words' k
  two_alike k below =
      rw (same.size k below, same.index k below) (ap (λ (b : Bool). eqb (size_at words' k) 2 && b) (next_alike k (index_at words' k) (ltb (k + 1) n) refl))

  block_alike : (k : ℕ) → k < n → block_of n words k ≡ block_of n words' k
  unfolding block_of
  block_alike k below = rw (two_alike k below) (rw (same.size k below, same.index k below))

  fault_alike : (fuel k : ℕ) → fault_from fuel n words k ≡ fault_from fuel n words' k
  unfolding fault_from
  fault_alike zero k = refl
  fault_alike (suc fuel) k = where_tested (ltb k n) n (λ test. rw (block_alike k (ltb-true k n test)) (ap (cond (eqb (block_of n words' k) 0) k) (fault_alike fuel (k + block_of n words' k))))

  -- the row that a mark names
  own_alike : (mark : ℕ) (none within : Bool) → eqb mark 0 ≡ none → leb mark n ≡ within
      → (none || (within && own_pivot words (mark - 1))) ≡ (none || (within && own_pivot words' (mark - 1)))
  own_alike mark true within set upto = refl
  own_alike mark false false set upto = refl
  own_alike mark false true set upto =
      let row : mark - 1 < n = let some = eqb-false mark 0 set in omega (arith, some, leb-true mark n upto) in
      rw (same.size (mark - 1) row, same.index (mark - 1) row)

  pub checked_alike : mark_at n words ≡ mark_at n words' → checked n words ≡ checked n words'
  unfolding checked tested
  checked_alike mark = rw (fault_alike n 0, mark) (ap (λ (sound : Bool). cond (leb n (fault_of n words')) (cond sound Done (Err (BadRecord n))) (Err (BadRecord (fault_of n words'))))
      (own_alike (mark_at n words') (eqb (mark_at n words') 0) (leb (mark_at n words') n) refl refl))
