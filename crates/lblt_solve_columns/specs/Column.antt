-- `solve_mut` on one column b of right-hand sides, A the factor and `words` its record.
use Rattle.std.specs.Prelude.{List, ℕ, ◌+◌, ◌-◌, Float, set}
use Rattle.matrix.specs.Rounded.{◌⊖◌, ◌⊗◌, ◌⊘◌}
use Rattle.matrix.specs.Matrix.{Matrix}
use Rattle.matrix.specs.Columns.{at}
use Rattle.pivots.specs.Words.{index_at}
use Rattle.pivots.specs.Blocks.{by_size, forwards, backwards}
use Rattle.substitution.specs.Steps.{eliminate_one, eliminate_two, divide_one, gather_row}

unfoldable pub swap_rows : List Float → ℕ → ℕ → List Float
swap_rows b p q = set (set b p (at b q)) q (at b p)

-- ---- L y = Pᵀ b

unfoldable pub forward_block : ℕ → Matrix → List ℕ → ℕ → List Float → List Float
forward_block n A words k b =
    by_size words k
    (eliminate_one n A k (swap_rows b k (index_at words k)))
    (eliminate_two n A k (swap_rows b (k + 1) (index_at words k)))

-- ---- D z = y

unfoldable pub block_determinant : Matrix → ℕ → Float
block_determinant A k = A k k ⊗ A (k + 1) (k + 1) ⊖ A (k + 1) k ⊗ A (k + 1) k

unfoldable pub divide_two : Matrix → ℕ → List Float → List Float
divide_two A k b =
    set
    (set b k ((at b k ⊗ A (k + 1) (k + 1) ⊖ at b (k + 1) ⊗ A (k + 1) k) ⊘ block_determinant A k))
    (k + 1)
    ((at b (k + 1) ⊗ A k k ⊖ at b k ⊗ A (k + 1) k) ⊘ block_determinant A k)

unfoldable pub divide_block : Matrix → List ℕ → ℕ → List Float → List Float
divide_block A words k b = by_size words k (divide_one A k b) (divide_two A k b)

-- ---- Lᵀ x = z

-- the block that ends before row k
unfoldable pub backward_block : ℕ → Matrix → List ℕ → ℕ → List Float → List Float
backward_block n A words k b =
    by_size words (k - 1)
    (swap_rows (gather_row n A (k - 1) k b) (k - 1) (index_at words (k - 1)))
    (swap_rows (gather_row n A (k - 2) k (gather_row n A (k - 1) k b)) (k - 1) (index_at words (k - 1)))

-- ---- A x = b

unfoldable pub solve_column : ℕ → Matrix → List ℕ → List Float → List Float
solve_column n A words b =
    backwards n words (backward_block n A words)
    (forwards n words (divide_block A words)
    (forwards n words (forward_block n A words) b))
