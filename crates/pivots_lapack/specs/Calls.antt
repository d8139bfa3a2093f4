-- What the reader and the writer of lists answer and leave behind, refused or not.
use Rattle.std.specs.Prelude.{cond, List, [], ◌∷◌, ◌++◌, ◌≡◌, ℕ, eqb, leb, ℤ, pos, length, Result, Ok}
use Rattle.answer.specs.declared.Refusal.{Refusal}
use Rattle.answer.specs.declared.Refusal.TheVariants.{OutOfRange, SliceLength, BadList}
use Rattle.answer.specs.Answer.{Answer, Done, is_done}
use Rattle.answer.specs.Refusals.{Test, ◌otherwise◌, tested}
use Rattle.pivots.specs.Words.{words_of, mark_at, run_at}
use Rattle.pivots.specs.Rule.{rule_tests, record_tests}
use Rattle.pivots_lapack.specs.declared.Stamp.{Stamp}
use Rattle.pivots_lapack.specs.Numbers.{mark_meant}
use Rattle.pivots_lapack.specs.Lists.{record_of, list_of}

-- the order, then the two slices
abbrev pub slice_tests : ℕ → List ℤ → List ℕ → List Test
slice_tests n list words =
    (leb n 1024 otherwise OutOfRange) ∷ (eqb (length list) n otherwise SliceLength) ∷ (eqb (length words) (words_of n) otherwise SliceLength) ∷ []

-- then the record's own rule, of the record that the list stands for
abbrev pub read_tests : ℕ → ℕ → List ℤ → ℤ → List ℕ → List Test
read_tests n run list info words = slice_tests n list words ++ rule_tests BadList n (record_of list (mark_meant n info) run)

pub record ListRead (n run : ℕ) (list : List ℤ) (info : ℤ) (words : List ℕ) (r : Answer) (words' : List ℕ) : Type 0 where
  pub answer : r ≡ tested (read_tests n run list info words) Done
  pub pivots : words' ≡ cond (is_done r) (record_of list (mark_meant n info) run) words

-- then the record's rule
abbrev pub write_tests : ℕ → List ℕ → List ℤ → List Test
write_tests n words list = slice_tests n list words ++ record_tests n words

-- INFO is the mark
abbrev pub stamp_of : ℕ → List ℕ → Stamp
stamp_of n words = record { info = pos (mark_at n words); run = run_at n words }

pub record ListWritten (n : ℕ) (words : List ℕ) (list : List ℤ) (r : Result Stamp Refusal) (list' : List ℤ) : Type 0 where
  pub answer : r ≡ tested (write_tests n words list) (Ok (stamp_of n words))
  pub numbers : list' ≡ cond (is_done r) (list_of n words) list
