-- What is read from a factor.
use Rattle.std.specs.Prelude.{◌≡◌, cond, Result, Ok, List, [], ◌∷◌, ◌++◌, ℕ, ◌*◌, eqb, leb, length, Float}
use Rattle.answer.specs.declared.Refusal.{Refusal}
use Rattle.answer.specs.declared.Refusal.TheVariants.{SliceLength}
use Rattle.answer.specs.Answer.{Answer, Done}
use Rattle.answer.specs.Refusals.{Test, ◌otherwise◌, tested, Leaving}
use Rattle.matrix.specs.declared.Layout.{Layout}
use Rattle.matrix.specs.Matrix.{Matrix, all_zero}
use Rattle.matrix.specs.Loop.{for}
use Rattle.matrix.specs.Grid.{Holds, load, mask}
use Rattle.matrix.specs.Layouts.{lower, strict, square, Fills}
use Rattle.matrix.specs.Rounded.{◌⊗◌, plus_zero, one}
use Rattle.matrix.specs.Sizes.{size_tests}

-- ---- the determinant

unfoldable pub times : Matrix → ℕ → Float → Float
times M i x = x ⊗ M i i

-- the product of the diagonal from 1, rows rising
unfoldable pub product_of : ℕ → Matrix → Float
unfolding times
product_of n M = for 0 n (times M) one

unfoldable pub times_itself : Float → Float
times_itself x = x ⊗ x

pub record CholeskyDetermined (y : Layout) (l : List Float) (r : Result Float Refusal) : Type 0 where
  pub answer : r ≡ tested (size_tests y 0 (length l)) (Ok (times_itself (product_of y.order (load (lower y) l))))

-- ---- l, in a lent matrix of its own

-- M with zeros above the diagonal
unfoldable pub triangle : Matrix → Matrix
triangle M i j = cond (leb j i) (M i j) plus_zero

-- codes 1 to 4, by the lengths of the factor and of the lent matrix
abbrev pub copy_tests : Layout → ℕ → ℕ → List Test
copy_tests y factor len = size_tests y 0 factor ++ ((eqb len (y.order * y.order) otherwise SliceLength) ∷ [])

pub record Copied (y : Layout) (a l₀ l : List Float) (r : Answer) : Type 0 where
  pub answer : r ≡ tested (copy_tests y (length a) (length l₀)) Done
  pub left : Leaving r (Fills y.order l (mask (square y.order) (triangle (load (lower y) a)))) (l ≡ l₀)

-- ---- unpack

pub record Unpacked (y : Layout) (l₀ l : List Float) (r : Answer) : Type 0 where
  pub answer : r ≡ tested (size_tests y 0 (length l₀)) Done
  pub left : Leaving r (Holds (strict y) l₀ l (mask (strict y) all_zero)) (l ≡ l₀)
