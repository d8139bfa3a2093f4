-- The record that a list stands for, word by word, and as it is written row by row.
--     record_length, record_index, record_size, record_mark, record_run     where its words stand
--     record_stamped                                                        the record with another run number
--     PairsWritten, pairs_more, pairs_all                          the rows before k are written; the whole record
-- Assumes nothing.
use mathlib.Core.List.{List, [], ◌∷◌, ◌++◌, append_assoc}
use mathlib.Core.Logic.{⊎_elim}
use mathlib.Core.Path.{◌≡◌, refl, sym, ap, ◌∙◌}
use Prim.Native.Nat.{ℕ, zero, suc, ◌+◌, ◌*◌, ◌<◌, ◌≤◌}
use native.Mathlib.Nat.{eq-or-lt_of_le}
use native.Mathlib.Omega.{arith}
use lib.IntN.{ℤ, pos}
use lib.ListN.{length, get_or, set, length-append, get_or-append}
use lib.Seq.{get_or-append-add, set_at}
use Rattle.pivots.specs.Words.{index_word, size_word, mark_word, run_word, words_of, index_at, size_at, mark_at, run_at, paired, marked, stamped}
use Rattle.pivots.proofs.SameWords.{same_words}
use Rattle.pivots.proofs.Written.{paired_length, paired_kept, paired_index, paired_size, ended_kept, ended_length, ended_mark, ended_run}
use Rattle.pivots_lapack.specs.Numbers.{index_meant, size_meant}
use Rattle.pivots_lapack.specs.Lists.{pairs_of, record_of}

-- the number of a row
abbrev pub in_list : List ℤ → ℕ → ℤ
in_list list row = get_or list row (pos 0)

-- ---- where its words stand

pairs_length : (list : List ℤ) → length (pairs_of list) ≡ 2 * length list
pairs_length [] = refl
pairs_length (number ∷ list) = omega (arith, pairs_length list)

pair_index : (list : List ℤ) (row : ℕ) → row < length list → get_or (pairs_of list) (index_word row) 0 ≡ index_meant (in_list list row)
pair_index [] row below = absurd (omega arith)
pair_index (number ∷ list) zero below = refl
pair_index (number ∷ list) (suc row) below =
    ap (λ (i : ℕ). get_or (index_meant number ∷ size_meant number ∷ pairs_of list) i 0) (let e : index_word (suc row) ≡ suc (suc (index_word row)) = omega arith in e)
    ∙ pair_index list row (omega arith)

pair_size : (list : List ℤ) (row : ℕ) → row < length list → get_or (pairs_of list) (size_word row) 0 ≡ size_meant (in_list list row)
pair_size [] row below = absurd (omega arith)
pair_size (number ∷ list) zero below = refl
pair_size (number ∷ list) (suc row) below =
    ap (λ (i : ℕ). get_or (index_meant number ∷ size_meant number ∷ pairs_of list) i 0) (let e : size_word (suc row) ≡ suc (suc (size_word row)) = omega arith in e)
    ∙ pair_size list row (omega arith)

module _ (n : ℕ) (list : List ℤ) (mark run : ℕ) (long : length list ≡ n) where
  abbrev ended : List ℕ
  ended = mark ∷ run ∷ []

  pub record_length : length (record_of list mark run) ≡ words_of n
  unfolding record_of
  record_length = omega (arith, length-append (pairs_of list) ended, pairs_length list)

  -- one of the pairs' words
  inside : (i : ℕ) → i < 2 * n → get_or (record_of list mark run) i 0 ≡ get_or (pairs_of list) i 0
  unfolding record_of
  inside i below = get_or-append (pairs_of list) ended 0 i (omega (arith, pairs_length list))

  pub record_index : (row : ℕ) → row < n → index_at (record_of list mark run) row ≡ index_meant (in_list list row)
  record_index row below = inside (index_word row) (omega arith) ∙ pair_index list row (omega arith)

  pub record_size : (row : ℕ) → row < n → size_at (record_of list mark run) row ≡ size_meant (in_list list row)
  record_size row below = inside (size_word row) (omega arith) ∙ pair_size list row (omega arith)

  -- one of the two after them
  after : (i : ℕ) → get_or (record_of list mark run) (2 * n + i) 0 ≡ get_or ended i 0
  unfolding record_of
  after i =
      ap (λ (k : ℕ). get_or (pairs_of list ++ ended) k 0) (let e : 2 * n + i ≡ length (pairs_of list) + i = omega (arith, pairs_length list) in e)
      ∙ get_or-append-add (pairs_of list) ended i 0

  pub record_mark : mark_at n (record_of list mark run) ≡ mark
  record_mark = ap (λ (k : ℕ). get_or (record_of list mark run) k 0) (let e : mark_word n ≡ 2 * n + 0 = omega arith in e) ∙ after 0

  pub record_run : run_at n (record_of list mark run) ≡ run
  record_run = after 1

  -- another run number
  pub record_stamped : (other : ℕ) → stamped n (record_of list mark run) other ≡ record_of list mark other
  unfolding stamped record_of
  record_stamped other =
      ap (λ (w : List ℕ). set w (run_word n) other) (sym (append_assoc (pairs_of list) (mark ∷ []) (run ∷ [])))
      ∙ set_at (pairs_of list ++ mark ∷ []) run [] other (run_word n) (omega (arith, length-append (pairs_of list) (mark ∷ []), pairs_length list))
      ∙ append_assoc (pairs_of list) (mark ∷ []) (other ∷ [])

-- ---- row by row

pub record PairsWritten (n : ℕ) (list : List ℤ) (row : ℕ) (words : List ℕ) : Type 0 where
  pub within : row ≤ n
  pub total : length words ≡ words_of n
  pub index : (r : ℕ) → r < row → index_at words r ≡ index_meant (in_list list r)
  pub size : (r : ℕ) → r < row → size_at words r ≡ size_meant (in_list list r)

module _ {n : ℕ} {list : List ℤ} {row : ℕ} {words : List ℕ} where
  pub pairs_more
      : {index size : ℕ} → PairsWritten n list row words → row < n → index ≡ index_meant (in_list list row) → size ≡ size_meant (in_list list row)
      → PairsWritten n list (row + 1) (paired words row index size)
  pairs_more {index} {size} p below i s =
      let room : size_word row < length words = omega (arith, p.total) in
      record {
        within = omega arith;
        total = paired_length words row index size ∙ p.total;
        index = λ r h.
            ⊎_elim (λ (e : r ≡ row). rw e (paired_index words row index size room ∙ i))
            (λ (l : r < row). (paired_kept words row index size).index r l ∙ p.index r l)
            (eq-or-lt_of_le (omega arith));
        size = λ r h.
            ⊎_elim (λ (e : r ≡ row). rw e (paired_size words row index size room ∙ s))
            (λ (l : r < row). (paired_kept words row index size).size r l ∙ p.size r l)
            (eq-or-lt_of_le (omega arith));
      }

  pub pairs_all : (mark run : ℕ) → PairsWritten n list row words → n ≤ row → length list ≡ n → stamped n (marked n words mark) run ≡ record_of list mark run
  pairs_all mark run p whole long =
      same_words (ended_length n words mark run p.total) (record_length n list mark run long)
      (record {
        index = λ r h. (ended_kept n words mark run).index r h ∙ p.index r (omega (arith, whole)) ∙ sym (record_index n list mark run long r h);
        size = λ r h. (ended_kept n words mark run).size r h ∙ p.size r (omega (arith, whole)) ∙ sym (record_size n list mark run long r h);
      })
      (ended_mark n words mark run p.total ∙ sym (record_mark n list mark run long))
      (ended_run n words mark run p.total ∙ sym (record_run n list mark run long))
