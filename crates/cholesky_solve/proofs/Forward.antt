-- The way forward over the rows of some columns: the steps of two rows, and the last row.
use Rattle.std.specs.Prelude.{List, ◌≡◌, ℕ, ◌+◌, ◌*◌, ◌<◌, ◌≤◌, Float, length, refl}
use Rattle.std.proofs.Common.{sym, ap, ◌∙◌}
use Rattle.std.proofs.Math.Path.{fun_ext}
use Rattle.matrix.specs.Matrix.{Matrix}
use Rattle.matrix.specs.Loop.{for}
use Rattle.matrix.specs.Columns.{each_column}
use Rattle.matrix.proofs.Loops.{for_two}
use Rattle.matrix.proofs.Columns.{each_after, each_then, each_loop}
use Rattle.matrix.proofs.ColumnsLoops.{rising, for_uniform}
use Rattle.matrix.proofs.Turning.{Turning, turning_all, turning_more}
use Rattle.substitution.specs.Steps.{divide_one, eliminate_two}
use Rattle.substitution.proofs.Keeps.{divide_one_keeps, eliminate_two_keeps}
use Rattle.cholesky_solve.specs.Triangles.{lower_row, solve_lower}
use Rattle.cholesky_solve.specs.inner.Engine.{next_row}
use Rattle.cholesky_solve.proofs.Pairs.{lower_pair, lower_last}
use Rattle.cholesky_solve.proofs.Keeps.{next_row_keeps, lower_row_keeps}

module _ (n columns : ℕ) (L : Matrix) (b : List Float) (long : length b ≡ n * columns) where
  pub lowered_two
      : (k : ℕ) → k + 1 < n → {b₁ b₂ b₃ b₄ : List Float}
      → b₁ ≡ each_column n columns (divide_one L k) b → b₂ ≡ each_column n columns (next_row L k) b₁
      → b₃ ≡ each_column n columns (divide_one L (k + 1)) b₂ → b₄ ≡ each_column n columns (eliminate_two n L k) b₃
      → b₄ ≡ for k (k + 2) (λ i. each_column n columns (lower_row n L i)) b
  lowered_two k inside e₁ e₂ e₃ e₄ =
      each_then n columns b long (λ l. divide_one L (k + 1) (next_row L k (divide_one L k l))) (eliminate_two n L k) (λ l. lower_row n L (k + 1) (lower_row n L k l))
      (λ l. divide_one_keeps L (k + 1) _ ∙ next_row_keeps L k _ ∙ divide_one_keeps L k l) (eliminate_two_keeps n L k)
      (λ l. lower_pair n L k inside l)
      (each_then n columns b long (λ l. next_row L k (divide_one L k l)) (divide_one L (k + 1)) _
      (λ l. next_row_keeps L k _ ∙ divide_one_keeps L k l) (divide_one_keeps L (k + 1)) (λ l. refl)
      (each_then n columns b long (divide_one L k) (next_row L k) _ (divide_one_keeps L k) (next_row_keeps L k) (λ l. refl) e₁ e₂)
      e₃)
      e₄
      ∙ sym (each_after n columns (lower_row n L k) (lower_row n L (k + 1)) (lower_row_keeps n L k) (lower_row_keeps n L (k + 1)) b long)
      ∙ sym (for_two k (λ i. each_column n columns (lower_row n L i)) b)

  -- all rows of each column
  pub lowered
      : {k : ℕ} {b' : List Float} → Turning 0 n (λ k. each_column n columns (lower_row n L k)) b k b' → n ≤ k → b' ≡ each_column n columns (solve_lower n L) b
  unfolding solve_lower
  lowered t past = turning_all t past ∙ each_loop n columns (rising 0 n) (for_uniform 0 n) (lower_row n L) (lower_row_keeps n L) b long

  -- the last row by itself
  pub lowered_last
      : {k : ℕ} {b₁ b₂ : List Float} → Turning 0 n (λ k. each_column n columns (lower_row n L k)) b k b₁ → k < n → n ≤ k + 1
      → b₂ ≡ each_column n columns (divide_one L k) b₁ → length b₂ ≡ length b₁
      → b₂ ≡ each_column n columns (solve_lower n L) b
  lowered_last {k} {b₁} t inside last e kept =
      lowered
      (turning_more t inside (e ∙ ap (λ (f : List Float → List Float). each_column n columns f b₁) (fun_ext (λ l. sym (lower_last n L k last l)))) kept)
      last
