-- Pivots of three rows that are accepted: how their rows fall into blocks, and which rows they name. The check does not see a run number. Assumes nothing.
use mathlib.Core.Path.{◌≡◌, refl, ◌∙◌}
use mathlib.Core.List.{List}
use mathlib.Core.Logic.{⊎_elim}
use Prim.Native.Nat.{ℕ, zero, suc, ◌<◌}
use native.Mathlib.Omega.{arith}
use lib.ListN.{get_or}
use Rattle.answer.proofs.Tests.{eq_or_ne}
use Rattle.pivots.specs.Words.{index_at, size_at}
use Rattle.pivots.specs.Rule.{checked, Accepted}
use Rattle.pivots.proofs.Boundaries.{Boundary, boundary_none, boundary_one, boundary_two, is_one, is_two}
use Rattle.pivots.proofs.Alike.{checked_alike}
use Rattle.handheld.specs.declared.Pivots3.{Pivots3}
use Rattle.handheld.specs.Shapes.{record_of}
use Rattle.handheld.specs.inner.Blocks.{one_one_one, one_two, two_one}

-- the check does not see the run number
pub checked_run : (p : Pivots3) (run : ℕ) → checked 3 (record_of 0 p) ≡ checked 3 (record_of run p)
unfolding record_of
checked_run p run = checked_alike (record { index = index; size = size }) refl
  where
    index : (row : ℕ) → row < 3 → index_at (record_of 0 p) row ≡ index_at (record_of run p) row
    index zero below = refl
    index (suc zero) below = refl
    index (suc (suc zero)) below = refl
    index (suc (suc (suc row))) below = absurd (omega arith)

    size : (row : ℕ) → row < 3 → size_at (record_of 0 p) row ≡ size_at (record_of run p) row
    size zero below = refl
    size (suc zero) below = refl
    size (suc (suc zero)) below = refl
    size (suc (suc (suc row))) below = absurd (omega arith)

-- the last row, reached by a block's end, is a block of its own, and its own pivot
alone : {words : List ℕ} → Boundary 3 words 2 → (size_at words 2 ≡ 1) × (index_at words 2 ≡ 2)
alone {words} b = ⊎_elim one two (eq_or_ne (size_at words 2) 1)
  where
    one : size_at words 2 ≡ 1 → (size_at words 2 ≡ 1) × (index_at words 2 ≡ 2)
    one size = let is = is_one b (omega arith) size in (size, omega (arith, is.low, is.high))

    two : (size_at words 2 ≡ 1 → ⊥) → (size_at words 2 ≡ 1) × (index_at words 2 ≡ 2)
    two other = absurd (let is = is_two b (omega arith) other in omega (arith, is.room))

module _ (p : Pivots3) (accepted : Accepted 3 (record_of 0 p)) where
  abbrev index : ℕ → ℕ
  index row = get_or p.index row 0

  abbrev size : ℕ → ℕ
  size row = get_or p.size row 0

  pub record Ones : Type 0 where
    pub first : index 0 < 3
    pub low : 0 < index 1
    pub high : index 1 < 3
    pub last : index 2 ≡ 2
    pub is : (run : ℕ) → record_of run p ≡ one_one_one (index 0) (index 1) p.mark run

  pub record OneTwo : Type 0 where
    pub first : index 0 < 3
    pub last : index 2 ≡ 2
    pub is : (run : ℕ) → record_of run p ≡ one_two (index 0) p.mark run

  pub record TwoOne : Type 0 where
    pub low : 0 < index 0
    pub high : index 0 < 3
    pub last : index 2 ≡ 2
    pub is : (run : ℕ) → record_of run p ≡ two_one (index 0) p.mark run

  start : Boundary 3 (record_of 0 p) 0
  start = boundary_none accepted

  pub ones : size 0 ≡ 1 → size 1 ≡ 1 → Ones
  unfolding record_of
  ones size0 size1 =
      let first = is_one start (omega arith) size0 in
      let b = boundary_one start first in
      let second = is_one b (omega arith) size1 in
      let third = alone (boundary_one b second) in
      record { first = first.high; low = omega (arith, second.low); high = second.high; last = third.1; is = λ run. rw (size0, size1, third.0, third.1) }

  pub one_two_law : size 0 ≡ 1 → (size 1 ≡ 1 → ⊥) → OneTwo
  unfolding record_of
  one_two_law size0 size1 =
      let first = is_one start (omega arith) size0 in
      let second = is_two (boundary_one start first) (omega arith) size1 in
      let index1 : index 1 ≡ 2 = omega (arith, second.low, second.high) in
      let index2 : index 2 ≡ 2 = second.index₂ ∙ index1 in
      record { first = first.high; last = index2; is = λ run. rw (size0, second.size, second.size₂, index1, index2) }

  pub two_one_law : (size 0 ≡ 1 → ⊥) → TwoOne
  unfolding record_of
  two_one_law size0 =
      let first = is_two start (omega arith) size0 in
      let third = alone (boundary_two start first) in
      record { low = omega (arith, first.low); high = first.high; last = third.1; is = λ run. rw (first.size, first.size₂, first.index₂, third.0, third.1) }

  -- the last row is its own pivot, or that of the block that it ends
  pub last_index : index 2 ≡ 2
  last_index =
      ⊎_elim (λ one. ⊎_elim (λ more. (ones one more).last) (λ two. (one_two_law one two).last) (eq_or_ne (size 1) 1)) (λ two. (two_one_law two).last) (eq_or_ne (size 0) 1)
