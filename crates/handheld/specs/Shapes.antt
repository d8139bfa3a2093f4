-- What is passed by value, as the slices of the lent calls.
use Rattle.std.specs.Prelude.{◌≡◌, List, [], ◌∷◌, ◌++◌, ℕ, length, get_or, Float}
use Rattle.handheld.specs.declared.Column3.{Column3}
use Rattle.handheld.specs.declared.Pivots3.{Pivots3}

-- the numbers of columns, one column after the other
unfoldable pub numbers_of : List Column3 → List Float
numbers_of [] = []
numbers_of (c ∷ columns) = c.row ++ numbers_of columns

-- each column has three numbers
unfoldable pub Threes : List Column3 → Type 0
Threes [] = Unit
Threes (c ∷ columns) = (length c.row ≡ 3) × Threes columns

-- three columns of three numbers
pub record Square (columns : List Column3) : Type 0 where
  pub three : length columns ≡ 3
  pub rows : Threes columns

-- three indexes and three sizes
pub record Paired (p : Pivots3) : Type 0 where
  pub indexes : length p.index ≡ 3
  pub sizes : length p.size ≡ 3

abbrev index_of : Pivots3 → ℕ → ℕ
index_of p row = get_or p.index row 0

abbrev size_of : Pivots3 → ℕ → ℕ
size_of p row = get_or p.size row 0

-- the record of pivots, with a run number: index and size of each row, the mark, the number
unfoldable pub record_of : ℕ → Pivots3 → List ℕ
record_of run p = index_of p 0 ∷ size_of p 0 ∷ index_of p 1 ∷ size_of p 1 ∷ index_of p 2 ∷ size_of p 2 ∷ p.mark ∷ run ∷ []
