-- A column keeps its length through every step of `solve_triangles`.
use Rattle.std.specs.Prelude.{ℕ, ◌+◌}
use Rattle.std.proofs.Common.{◌∙◌, length-set}
use Rattle.matrix.specs.Matrix.{Matrix}
use Rattle.substitution.specs.Steps.{less_one}
use Rattle.matrix.proofs.ColumnsLoops.{Keeping, Keeps, sinking, falling_uniform, loop_keeps, for_long}
use Rattle.substitution.proofs.Keeps.{divide_one_keeps, gather_keeps}
use Rattle.cholesky_solve.specs.Triangles.{spread_product, spread_row, lower_row, solve_lower, transposed_row, solve_transposed, solve_triangles}
use Rattle.cholesky_solve.specs.inner.Engine.{next_row}

pub next_row_keeps : (L : Matrix) → Keeps (next_row L)
unfolding next_row less_one
next_row_keeps L k b = length-set b (k + 1) _

module _ (n : ℕ) (L : Matrix) where
  pub lower_row_keeps : Keeps (lower_row n L)
  unfolding lower_row spread_row spread_product
  lower_row_keeps i b = for_long (i + 1) n _ _ (λ r l. length-set l r _) ∙ divide_one_keeps L i b

  pub transposed_row_keeps : Keeps (transposed_row n L)
  unfolding transposed_row
  transposed_row_keeps i b = divide_one_keeps L i _ ∙ gather_keeps n L i (i + 1) b

  pub lower_keeps : Keeping (solve_lower n L)
  unfolding solve_lower
  lower_keeps b = for_long 0 n (lower_row n L) b lower_row_keeps

  pub transposed_keeps : Keeping (solve_transposed n L)
  unfolding solve_transposed
  transposed_keeps b = loop_keeps (sinking n) (falling_uniform n) (transposed_row n L) b transposed_row_keeps

  pub triangles_keeps : Keeping (solve_triangles n L)
  unfolding solve_triangles
  triangles_keeps b = simp (lower_keeps, transposed_keeps)
