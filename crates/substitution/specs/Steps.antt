-- The steps of a solve by a lower triangle A, on one column b of right-hand sides.
use Rattle.std.specs.Prelude.{List, ℕ, ◌+◌, Float, set}
use Rattle.matrix.specs.Rounded.{◌⊖◌, ◌⊗◌, ◌⊘◌}
use Rattle.matrix.specs.Matrix.{Matrix}
use Rattle.matrix.specs.Loop.{for}
use Rattle.matrix.specs.Columns.{at}

-- ---- forwards

-- row i less A(i,k)·x
unfoldable pub less_one : Matrix → ℕ → Float → ℕ → List Float → List Float
less_one A k x i b = set b i (at b i ⊖ A i k ⊗ x)

-- row i less A(i,k)·x, then less A(i,k+1)·z
unfoldable pub less_two : Matrix → ℕ → Float → Float → ℕ → List Float → List Float
less_two A k x z i b = set b i (at b i ⊖ A i k ⊗ x ⊖ A i (k + 1) ⊗ z)

unfoldable pub eliminate_one : ℕ → Matrix → ℕ → List Float → List Float
eliminate_one n A k b = for (k + 1) n (less_one A k (at b k)) b

unfoldable pub eliminate_two : ℕ → Matrix → ℕ → List Float → List Float
eliminate_two n A k b = for (k + 2) n (less_two A k (at b k) (at b (k + 1))) b

unfoldable pub divide_one : Matrix → ℕ → List Float → List Float
divide_one A k b = set b k (at b k ⊘ A k k)

-- ---- back

unfoldable pub less_product : Matrix → List Float → ℕ → ℕ → Float → Float
less_product A b row i x = x ⊖ A i row ⊗ at b i

-- a row less A(i,row)·b(i) for i in from..n
unfoldable pub gather_row : ℕ → Matrix → ℕ → ℕ → List Float → List Float
gather_row n A row from b = set b row (for from n (less_product A b row) (at b row))
