-- The rule of a pivot record, and what its check answers.
use Rattle.std.specs.Prelude.{Bool, true, cond, ◌&&◌, ◌||◌, List, [], ◌∷◌, ◌≡◌, ℕ, zero, suc, ◌+◌, ◌-◌, leb, ltb, eqb}
use Rattle.answer.specs.declared.Refusal.{Refusal}
use Rattle.answer.specs.declared.Refusal.TheVariants.{BadRecord}
use Rattle.answer.specs.Answer.{Answer, Done, is_done}
use Rattle.answer.specs.Refusals.{Test, ◌otherwise◌, tested}
use Rattle.pivots.specs.Words.{index_at, size_at, mark_at, Sized}

-- size 1 at row k: an index in k..n−1
abbrev pub sound_one : ℕ → List ℕ → ℕ → Bool
sound_one n words k = eqb (size_at words k) 1 && (leb k (index_at words k) && ltb (index_at words k) n)

-- size 2 at row k: k+1 < n, an index in k+1..n−1, the same pair at k+1
abbrev pub sound_two : ℕ → List ℕ → ℕ → Bool
sound_two n words k =
    eqb (size_at words k) 2 && (ltb (k + 1) n && (leb (k + 1) (index_at words k) && (ltb (index_at words k) n
    && (eqb (index_at words (k + 1)) (index_at words k) && eqb (size_at words (k + 1)) 2))))

-- the rows of the block that starts at row k, 0 where it breaks the rule
unfoldable pub block_of : ℕ → List ℕ → ℕ → ℕ
block_of n words k = cond (sound_one n words k) 1 (cond (sound_two n words k) 2 0)

-- from row k on, for at most `fuel` blocks: the first row that breaks the rule, n if none does
unfoldable pub fault_from : ℕ → ℕ → List ℕ → ℕ → ℕ
fault_from zero n words k = n
fault_from (suc fuel) n words k =
    cond (ltb k n)
    (cond (eqb (block_of n words k) 0) k (fault_from fuel n words (k + block_of n words k)))
    n

abbrev pub fault_of : ℕ → List ℕ → ℕ
fault_of n words = fault_from n n words 0

-- a row of size 1 whose index is that row
abbrev pub own_pivot : List ℕ → ℕ → Bool
own_pivot words row = eqb (size_at words row) 1 && eqb (index_at words row) row

-- the mark is 0, or names such a row
abbrev pub sound_mark : ℕ → List ℕ → Bool
sound_mark n words = eqb (mark_at n words) 0 || (leb (mark_at n words) n && own_pivot words (mark_at n words - 1))

-- the rows are judged before the mark; a broken rule is answered by `broken` with its place
abbrev pub rule_tests : (ℕ → Refusal) → ℕ → List ℕ → List Test
rule_tests broken n words = (leb n (fault_of n words) otherwise broken (fault_of n words)) ∷ (sound_mark n words otherwise broken n) ∷ []

abbrev pub record_tests : ℕ → List ℕ → List Test
record_tests = rule_tests BadRecord

unfoldable pub checked : ℕ → List ℕ → Answer
checked n words = tested (record_tests n words) Done

-- a record that is accepted
pub record Accepted (n : ℕ) (words : List ℕ) : Type 0 where
  pub sized : Sized n words
  pub done : is_done (checked n words) ≡ true
