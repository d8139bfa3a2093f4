-- What `solve_mut` promises.
use Rattle.std.specs.Prelude.{◌≡◌, cond, List, [], ◌∷◌, ◌++◌, ℕ, ◌*◌, eqb, leb, length, Float}
use Rattle.answer.specs.declared.Refusal.TheVariants.{OutOfRange, SliceLength}
use Rattle.answer.specs.Answer.{Answer, Done, is_done}
use Rattle.answer.specs.Refusals.{Test, ◌otherwise◌, tested}
use Rattle.matrix.specs.declared.Layout.{Layout}
use Rattle.matrix.specs.Columns.{each_column}
use Rattle.matrix.specs.Grid.{Grid, load}
use Rattle.matrix.specs.Layouts.{lower}
use Rattle.matrix.specs.Sizes.{size_tests}
use Rattle.cholesky_solve.specs.Triangles.{solve_triangles}

-- codes 1 to 4, by the lengths of the factor and of the right-hand sides
abbrev pub sides_tests : Layout → ℕ → ℕ → ℕ → List Test
sides_tests y columns factor sides =
    (leb columns 1024 otherwise OutOfRange)
    ∷ size_tests y 0 factor
    ++ ((eqb sides (y.order * columns) otherwise SliceLength) ∷ [])

-- each column of b by itself, n numbers a column, by the factor that a holds
unfoldable pub solve_sides : Grid → ℕ → ℕ → List Float → List Float → List Float
solve_sides g n columns a b = each_column n columns (solve_triangles n (load g a)) b

pub record CholeskySolved (y : Layout) (columns : ℕ) (a b b' : List Float) (r : Answer) : Type 0 where
  pub answer : r ≡ tested (sides_tests y columns (length a) (length b)) Done
  pub sides : b' ≡ cond (is_done r) (solve_sides (lower y) y.order columns a b) b
