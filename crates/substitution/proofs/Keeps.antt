-- A column keeps its length through every step.
use Rattle.std.specs.Prelude.{List, ◌≡◌, ℕ, ◌+◌, Float, length}
use Rattle.std.proofs.Common.{length-set}
use Rattle.matrix.specs.Matrix.{Matrix}
use Rattle.matrix.proofs.ColumnsLoops.{Keeps, for_long}
use Rattle.substitution.specs.Steps.{less_one, less_two, eliminate_one, eliminate_two, divide_one, gather_row}

pub gather_keeps : (n : ℕ) (A : Matrix) (row from : ℕ) (b : List Float) → length (gather_row n A row from b) ≡ length b
unfolding gather_row
gather_keeps n A row from b = simp length-set

module _ (n : ℕ) (A : Matrix) where
  pub eliminate_one_keeps : Keeps (eliminate_one n A)
  unfolding eliminate_one less_one
  eliminate_one_keeps k b = for_long (k + 1) n _ b (λ i l. length-set l i _)

  pub eliminate_two_keeps : Keeps (eliminate_two n A)
  unfolding eliminate_two less_two
  eliminate_two_keeps k b = for_long (k + 2) n _ b (λ i l. length-set l i _)

pub divide_one_keeps : (A : Matrix) → Keeps (divide_one A)
unfolding divide_one
divide_one_keeps A k b = length-set b k _
