-- The choice of a pivot, way by way. Assumes nothing.
use mathlib.Core.Path.{◌≡◌, ◌∙◌, ap}
use mathlib.Core.Bool.{true, false}
use Prim.Native.Nat.{ℕ, ◌+◌, ◌≤◌, ◌<◌}
use lib.Ieee.{Float, lt, le, eq}
use borrow.Author.Tests.{lt-ltb, le-ltb}
use Rattle.leaf.specs.Abs.{abs_of}
use Rattle.leaf.specs.Maximum.{maximum_of}
use Rattle.matrix.specs.Matrix.{Matrix}
use Rattle.matrix.specs.Loop.{for}
use Rattle.matrix.specs.Rounded.{◌⊗◌, ◌⊘◌, plus_zero}
use Rattle.lblt_choice.specs.Choice.{α, greater, column_max, along_row, down_column, row_max, contest, choice_by, choose}
use Rattle.lblt_choice.specs.declared.Largest.{Largest}
use Rattle.lblt_choice.specs.declared.Choice.{Choice}
use Rattle.lblt_choice.specs.declared.Choice.TheVariants.{ZeroColumn, One, Two}

-- ---- the largest entry of a column

module _ (M : Matrix) (k i : ℕ) (top : Largest) {magnitude : Float} (is : magnitude ≡ abs_of (M i k)) where
  pub replaced : lt top.colmax magnitude ≡ true → record { imax = i; colmax = magnitude } ≡ greater M k i top
  unfolding greater
  replaced test =
      let test' : lt top.colmax (abs_of (M i k)) ≡ true = rw is at test in
      rw (is, test')

  pub stays : lt top.colmax magnitude ≡ false → top ≡ greater M k i top
  unfolding greater
  stays test =
      let test' : lt top.colmax (abs_of (M i k)) ≡ false = rw is at test in
      rw test'

pub no_rows : (n : ℕ) (M : Matrix) (k : ℕ) → n ≤ k + 1 → record { imax = 0; colmax = plus_zero } ≡ column_max n M k
unfolding column_max
no_rows n M k none = rw (le-ltb (k + 1) n none)

pub scanned : (n : ℕ) (M : Matrix) (k : ℕ) {first : Float} {top : Largest}
    → k + 1 < n → first ≡ abs_of (M (k + 1) k) → top ≡ for (k + 2) n (greater M k) (record { imax = k + 1; colmax = first }) → top ≡ column_max n M k
unfolding column_max
scanned n M k some is all = rw (lt-ltb (k + 1) n some) (rw is at all)

pub row_scanned : (n : ℕ) (M : Matrix) (k i : ℕ) {left all : Float}
    → left ≡ for k i (along_row M i) plus_zero → all ≡ for (i + 1) n (down_column M i) left → all ≡ row_max n M k i
unfolding row_max
row_scanned n M k i is all = rw is at all

-- ---- the contest of two rows

module _ (M : Matrix) (k : ℕ) (top : Largest) {diag : Float} {rowmax rowmax' : Float} (row : rowmax ≡ rowmax') where
  pub diagonal_wins : diag ≡ abs_of (M k k) → le (α ⊗ top.colmax ⊗ (top.colmax ⊘ rowmax)) diag ≡ true → One k ≡ contest M k top rowmax'
  unfolding contest
  diagonal_wins is test =
      let test' : le (α ⊗ top.colmax ⊗ (top.colmax ⊘ rowmax')) (abs_of (M k k)) ≡ true = rw (row, is) at test in
      rw test'

  module _ {other : Float} (is : diag ≡ abs_of (M k k)) (lost : le (α ⊗ top.colmax ⊗ (top.colmax ⊘ rowmax)) diag ≡ false) (at : other ≡ abs_of (M top.imax top.imax)) where
    lost' : le (α ⊗ top.colmax ⊗ (top.colmax ⊘ rowmax')) (abs_of (M k k)) ≡ false
    lost' = rw (row, is) at lost

    pub both_small : lt other (α ⊗ rowmax) ≡ true → Two top.imax ≡ contest M k top rowmax'
    unfolding contest
    both_small test =
        let test' : lt (abs_of (M top.imax top.imax)) (α ⊗ rowmax') ≡ true = rw (row, at) at test in
        rw (lost', test')

    pub other_wins : lt other (α ⊗ rowmax) ≡ false → One top.imax ≡ contest M k top rowmax'
    unfolding contest
    other_wins test =
        let test' : lt (abs_of (M top.imax top.imax)) (α ⊗ rowmax') ≡ false = rw (row, at) at test in
        rw (lost', test')

-- ---- the choice

module _ (n : ℕ) (M : Matrix) (k : ℕ) {top : Largest} {diag most : Float} (is : diag ≡ abs_of (M k k)) (largest : top ≡ column_max n M k) (max : most ≡ maximum_of diag top.colmax) where
  by : {r : Choice} → r ≡ choice_by n M k top → r ≡ choose n M k
  unfolding choose
  by e = e ∙ ap (choice_by n M k) largest

  pub chooses_zero_column : eq most plus_zero ≡ true → ZeroColumn ≡ choose n M k
  unfolding choice_by
  chooses_zero_column test =
      let test' : eq (maximum_of (abs_of (M k k)) top.colmax) plus_zero ≡ true = rw (max, is) at test in
      by (rw test')

  module _ (some : eq most plus_zero ≡ false) where
    some' : eq (maximum_of (abs_of (M k k)) top.colmax) plus_zero ≡ false
    some' = rw (max, is) at some

    pub chooses_contest : {r : Choice} → lt diag (α ⊗ top.colmax) ≡ true → r ≡ contest M k top (row_max n M k top.imax) → r ≡ choose n M k
    unfolding choice_by
    chooses_contest test found =
        let test' : lt (abs_of (M k k)) (α ⊗ top.colmax) ≡ true = rw is at test in
        by (rw (some', test') found)

    pub chooses_diagonal : lt diag (α ⊗ top.colmax) ≡ false → One k ≡ choose n M k
    unfolding choice_by
    chooses_diagonal test =
        let test' : lt (abs_of (M k k)) (α ⊗ top.colmax) ≡ false = rw is at test in
        by (rw (some', test'))
