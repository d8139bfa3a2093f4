-- `determinant` and `d`, from the diagonal blocks.
use Rattle.std.specs.Prelude.{List, ℕ, ◌+◌, Float}
use Rattle.matrix.specs.Matrix.{Matrix, all_zero, entry}
use Rattle.matrix.specs.Grid.{mask}
use Rattle.matrix.specs.Layouts.{square}
use Rattle.matrix.specs.Rounded.{◌⊗◌, one}
use Rattle.pivots.specs.Blocks.{by_size, forwards}
use Rattle.lblt_solve_columns.specs.Column.{block_determinant}

-- ---- the product of the blocks' determinants, from 1

unfoldable pub times_block : Matrix → List ℕ → ℕ → Float → Float
times_block A words k x = x ⊗ by_size words k (A k k) (block_determinant A k)

unfoldable pub determinant_of : ℕ → Matrix → List ℕ → Float
determinant_of n A words = forwards n words (times_block A words) one

-- ---- the block diagonal matrix

unfoldable pub diagonal_two : Matrix → ℕ → Matrix → Matrix
diagonal_two A k D =
    entry (entry (entry (entry D k k (A k k)) (k + 1) k (A (k + 1) k)) k (k + 1) (A (k + 1) k)) (k + 1) (k + 1) (A (k + 1) (k + 1))

unfoldable pub diagonal_block : Matrix → List ℕ → ℕ → Matrix → Matrix
diagonal_block A words k D = by_size words k (entry D k k (A k k)) (diagonal_two A k D)

unfoldable pub d_of : ℕ → Matrix → List ℕ → Matrix
d_of n A words = forwards n words (diagonal_block A words) (mask (square n) all_zero)
