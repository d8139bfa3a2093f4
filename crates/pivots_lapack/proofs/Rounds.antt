-- Record to list and back, list to record and back.
--     record_back     the record of a sound record's list is that record
--     list_back       the list of the record that a list stands for is that list, where this record is sound
--     info_back       and its mark is the list's INFO
-- Assumes nothing.
use mathlib.Core.List.{List}
use mathlib.Core.Logic.{◌⊎◌, inl, inr}
use mathlib.Core.Path.{◌≡◌, refl, sym, ap, ◌∙◌}
use Prim.Native.Nat.{ℕ, zero, suc, ◌+◌}
use native.Mathlib.Numerals.{add-one}
use native.Mathlib.Omega.{arith}
use lib.IntN.{ℤ, pos, negsuc, neg_ℤ}
use lib.ListN.{length}
use Rattle.pivots.specs.Words.{index_at, size_at, mark_at, run_at}
use Rattle.pivots.specs.Rule.{Accepted}
use Rattle.pivots.proofs.Boundaries.{mark_within}
use Rattle.pivots.proofs.Rows.{Row, row_sound}
use Rattle.pivots.proofs.SameWords.{same_words}
use Rattle.pivots.proofs.Walks.{size_one, size_two}
use Rattle.pivots_lapack.specs.Numbers.{index_meant, size_meant, number_at, mark_meant}
use Rattle.pivots_lapack.specs.Lists.{record_of, list_of}
use Rattle.pivots_lapack.proofs.Records.{in_list, record_length, record_index, record_size, record_mark, record_run}
use Rattle.pivots_lapack.proofs.Lists.{list_length, list_at, list_is}

-- ---- a number and its pair

-- the number of a row of size 1 or 2 stands for the row's pair
pub record PairOf (number : ℤ) (words : List ℕ) (row : ℕ) : Type 0 where
  pub index : index_meant number ≡ index_at words row
  pub size : size_meant number ≡ size_at words row

pub number_pair : {n : ℕ} {words : List ℕ} {row : ℕ} → Row n words row → PairOf (number_at words row) words row
number_pair {n} {words} {row} sound = by sound.size
  where
    by : (size_at words row ≡ 1) ⊎ (size_at words row ≡ 2) → PairOf (number_at words row) words row
    by (inl one) = rw (size_one words row (pos (index_at words row + 1)) (neg_ℤ (pos (index_at words row + 1))) one, add-one) (record { index = refl; size = sym one })
    by (inr two) =
        rw (size_two words row (pos (index_at words row + 1)) (neg_ℤ (pos (index_at words row + 1))) (λ (e : size_at words row ≡ 1). omega arith), add-one)
        (record { index = refl; size = sym two })

-- ---- record to list and back

pub record_back : {n : ℕ} {words : List ℕ} → Accepted n words → record_of (list_of n words) (mark_at n words) (run_at n words) ≡ words
record_back {n} {words} a =
    let list = list_of n words in
    let long = list_length n words in
    let mark = mark_at n words in
    let run = run_at n words in
    same_words (record_length n list mark run long) a.sized.total
    (record {
      index = λ row h. record_index n list mark run long row h ∙ ap index_meant (list_at n words row h) ∙ (number_pair (row_sound a row h)).index;
      size = λ row h. record_size n list mark run long row h ∙ ap size_meant (list_at n words row h) ∙ (number_pair (row_sound a row h)).size;
    })
    (record_mark n list mark run long) (record_run n list mark run long)

-- ---- list to record and back

-- a number other than 0 is that of its pair
by_pair : (z : ℤ) (words : List ℕ) (row : ℕ) → index_at words row ≡ index_meant z → size_at words row ≡ size_meant z → (size_at words row ≡ 1) ⊎ (size_at words row ≡ 2) → number_at words row ≡ z
by_pair (pos zero) words row i s (inl one) = absurd (omega arith)
by_pair (pos zero) words row i s (inr two) = absurd (omega arith)
by_pair (pos (suc p)) words row i s sound = size_one words row _ _ s ∙ rw (i, add-one)
by_pair (negsuc p) words row i s sound = size_two words row _ _ (λ (e : size_at words row ≡ 1). omega arith) ∙ rw (i, add-one)

module _ (n : ℕ) (list : List ℤ) (mark run : ℕ) (long : length list ≡ n) (a : Accepted n (record_of list mark run)) where
  pub list_back : list ≡ list_of n (record_of list mark run)
  list_back =
      list_is (record_of list mark run) long
      (λ row h. sym (by_pair (in_list list row) (record_of list mark run) row (record_index n list mark run long row h) (record_size n list mark run long row h) (row_sound a row h).size))

  -- of an INFO that is this mark
  pub info_back : (info : ℤ) → mark ≡ mark_meant n info → pos (mark_at n (record_of list mark run)) ≡ info
  info_back (pos m) is = ap pos (record_mark n list mark run long ∙ is)
  info_back (negsuc m) is = absurd (omega (arith, mark_within a, record_mark n list mark run long, is))
