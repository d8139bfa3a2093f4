-- The range of a choice: a pivot of size 1 is a row from k on, one of size 2 a row after k. Assumes nothing.
use mathlib.Core.Path.{◌≡◌, refl, sym, ◌∙◌, subst}
use mathlib.Core.Bool.{Bool, true, false, true≢false}
use Prim.Native.Nat.{ℕ, ◌+◌, ◌*◌, ◌≤◌, ◌<◌}
use native.Mathlib.Nat.{zero-mul}
use native.Mathlib.Omega.{arith}
use lib.Dec.{ltb}
use lib.Ieee.{Float, nan, inf, fin, lt, le, eq, mul, round, of_bits, of_fields, up, down}
use borrow.Author.Tests.{ltb-true, le-ltb}
use Rattle.leaf.specs.Abs.{abs_of}
use Rattle.leaf.specs.Maximum.{maximum_of}
use Rattle.matrix.specs.Matrix.{Matrix}
use Rattle.matrix.specs.Rounded.{◌⊗◌, ◌⊘◌, plus_zero}
use Rattle.answer.proofs.Tests.{either}
use Rattle.matrix.proofs.Loops.{for_keeps}
use Rattle.lblt_choice.specs.Choice.{α, greater, column_max, row_max, contest, choice_by, choose}
use Rattle.lblt_choice.specs.declared.Largest.{Largest}
use Rattle.lblt_choice.specs.declared.Choice.{Choice}
use Rattle.lblt_choice.specs.declared.Choice.TheVariants.{ZeroColumn, One, Two}

-- no absolute value is below α·0
pub never_below : (x : Float) → lt (abs_of x) (α ⊗ plus_zero) ≡ false
unfolding abs_of lt mul round of_bits of_fields
never_below nan = refl
never_below (inf s) = refl
never_below (fin s m e) = le-ltb (m * up e * 1) (0 * down e) (omega (arith, zero-mul (down e)))

abbrev Below : ℕ → ℕ → Largest → Type 0
Below n k top = (k < top.imax) × (top.imax < n)

greater_below : (n : ℕ) (M : Matrix) (k i : ℕ) (top : Largest) → k + 2 ≤ i → i < n → Below n k top → Below n k (greater M k i top)
unfolding greater
greater_below n M k i top from upto is = either (Below n k) (lt top.colmax (abs_of (M i k))) (λ t. (omega arith, upto)) (λ f. is)

module _ (n : ℕ) (M : Matrix) (k : ℕ) where
  -- the largest entry of a column with rows below its diagonal is one of them
  largest_below : ltb (k + 1) n ≡ true → Below n k (column_max n M k)
  unfolding column_max
  largest_below some =
      let rows : k + 1 < n = ltb-true (k + 1) n some in
      rw some (for_keeps (Below n k) (k + 2) n (greater M k) (record { imax = k + 1; colmax = abs_of (M (k + 1) k) }) (omega arith, rows) (λ i top from upto is. greater_below n M k i top from upto is))

  no_rows : ltb (k + 1) n ≡ false → lt (abs_of (M k k)) (α ⊗ (column_max n M k).colmax) ≡ false
  unfolding column_max
  no_rows none = rw none (never_below (M k k))

  contested : lt (abs_of (M k k)) (α ⊗ (column_max n M k).colmax) ≡ true → (b : Bool) → ltb (k + 1) n ≡ b → Below n k (column_max n M k)
  contested test true some = largest_below some
  contested test false none = absurd (true≢false (sym test ∙ no_rows none))

-- where the diagonal is small against its column, row imax stands below it
pub contest_range : (n : ℕ) (M : Matrix) (k : ℕ) {top : Largest} {diag : Float}
    → diag ≡ abs_of (M k k) → top ≡ column_max n M k → lt diag (α ⊗ top.colmax) ≡ true → (k < top.imax) × (top.imax < n)
contest_range n M k {top} {diag} is largest test =
    subst (Below n k) (sym largest) (contested n M k (rw (is, largest) at test) (ltb (k + 1) n) refl)

unfoldable pub Within : ℕ → ℕ → Choice → Type 0
Within n k ZeroColumn = Unit
Within n k (One p) = (k ≤ p) × (p < n)
Within n k (Two p) = (k < p) × (p < n)

contest_within : (n : ℕ) (M : Matrix) (k : ℕ) (top : Largest) (rowmax : Float) → k < n → Below n k top → Within n k (contest M k top rowmax)
unfolding contest Within
contest_within n M k top rowmax h below =
    either (Within n k) (le (α ⊗ top.colmax ⊗ (top.colmax ⊘ rowmax)) (abs_of (M k k))) {x = One k} (λ wins. (omega arith, h))
    (λ loses. either (Within n k) (lt (abs_of (M top.imax top.imax)) (α ⊗ rowmax)) {x = Two top.imax} {y = One top.imax} (λ two. below) (λ one. (omega arith, below.1)))

pub choose_range : (n : ℕ) (M : Matrix) (k : ℕ) → k < n → Within n k (choose n M k)
unfolding choose choice_by Within
choose_range n M k h =
    either (Within n k) (eq (maximum_of (abs_of (M k k)) (column_max n M k).colmax) plus_zero) {x = ZeroColumn} (λ null. tt)
    (λ some. either (Within n k) (lt (abs_of (M k k)) (α ⊗ (column_max n M k).colmax)) {x = contest M k (column_max n M k) (row_max n M k (column_max n M k).imax)} {y = One k}
    (λ small. contest_within n M k (column_max n M k) (row_max n M k (column_max n M k).imax) h (contest_range n M k refl refl small))
    (λ large. (omega arith, h)))

-- what a choice that was made says of its row
pub one_range : {n : ℕ} (M : Matrix) {k : ℕ} {r : Choice} {p : ℕ} → k < n → r ≡ choose n M k → r ≡ One p → (k ≤ p) × (p < n)
unfolding Within
one_range {n} M {k} h made is = subst (Within n k) (sym made ∙ is) (choose_range n M k h)

pub two_range : {n : ℕ} (M : Matrix) {k : ℕ} {r : Choice} {p : ℕ} → k < n → r ≡ choose n M k → r ≡ Two p → (k < p) × (p < n)
unfolding Within
two_range {n} M {k} h made is = subst (Within n k) (sym made ∙ is) (choose_range n M k h)
