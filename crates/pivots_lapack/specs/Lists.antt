-- Lists and records.
use Rattle.std.specs.Prelude.{List, [], ◌∷◌, ◌++◌, ℕ, zero, suc, ◌+◌, ℤ}
use Rattle.pivots_lapack.specs.Numbers.{index_meant, size_meant, number_at}

-- ---- the record that a list stands for: index and size of each row, the mark, the run number

abbrev pub pairs_of : List ℤ → List ℕ
pairs_of [] = []
pairs_of (number ∷ list) = index_meant number ∷ size_meant number ∷ pairs_of list

unfoldable pub record_of : List ℤ → ℕ → ℕ → List ℕ
record_of list mark run = pairs_of list ++ mark ∷ run ∷ []

-- ---- the list of a record: the numbers of its rows

-- of `count` rows, from `row` on
abbrev pub numbers_from : List ℕ → ℕ → ℕ → List ℤ
numbers_from words zero row = []
numbers_from words (suc count) row = number_at words row ∷ numbers_from words count (row + 1)

unfoldable pub list_of : ℕ → List ℕ → List ℤ
list_of n words = numbers_from words n 0
