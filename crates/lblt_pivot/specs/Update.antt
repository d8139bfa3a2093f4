-- What a pivot at row k does to the rows and columns after it. No rows left: nothing.
use Rattle.std.specs.Prelude.{ℕ, ◌+◌, Float}
use Rattle.std.specs.Float.Ieee.{neg}
use Rattle.leaf.specs.Abs.{abs_of}
use Rattle.matrix.specs.Matrix.{Matrix, entry}
use Rattle.matrix.specs.Loop.{for}
use Rattle.matrix.specs.Rounded.{◌⊕◌, ◌⊖◌, ◌⊗◌, ◌⊘◌, one}
use Rattle.lblt_pivot.specs.declared.rank2.Block.{Block}

-- ---- size 1, inv = 1 / a(k,k)

-- a(i,j) + (a(i,k)·(−inv))·a(j,k)
unfoldable pub rank1_at : ℕ → ℕ → Float → Float → ℕ → Matrix → Matrix
rank1_at k j inv ajk i M = entry M i j (M i j ⊕ M i k ⊗ neg inv ⊗ ajk)

unfoldable pub rank1 : ℕ → ℕ → Float → ℕ → Matrix → Matrix
rank1 n k inv j M = for j n (rank1_at k j inv (M j k)) M

unfoldable pub scale_at : ℕ → Float → ℕ → Matrix → Matrix
scale_at k inv i M = entry M i k (M i k ⊗ inv)

unfoldable pub eliminate1 : ℕ → ℕ → Float → Matrix → Matrix
eliminate1 n k inv M = for (k + 1) n (scale_at k inv) (for (k + 1) n (rank1 n k inv) M)

unfoldable pub update1 : ℕ → ℕ → Matrix → Matrix
update1 n k M = eliminate1 n k (one ⊘ M k k) M

-- ---- size 2

unfoldable pub block_by : Matrix → ℕ → Float → Block
block_by M k d = record { d = d; d11 = M (k + 1) (k + 1) ⊘ d; d22 = M k k ⊘ d; d21 = M (k + 1) k ⊘ d }

-- the four scaled numbers of the block at rows k and k + 1
unfoldable pub block_at : Matrix → ℕ → Block
block_at M k = block_by M k (abs_of (M (k + 1) k))

unfoldable pub multiplier : Block → Float
multiplier b = one ⊘ (b.d ⊗ (b.d11 ⊗ b.d22 ⊖ one))

-- w1 and w2 of a row, from its entries in columns k and k + 1
unfoldable pub work1 : Block → Float → Float → Float
work1 b ajk ajk1 = (ajk ⊗ b.d11 ⊖ ajk1 ⊗ b.d21) ⊗ multiplier b

unfoldable pub work2 : Block → Float → Float → Float
work2 b ajk ajk1 = (ajk1 ⊗ b.d22 ⊖ ajk ⊗ b.d21) ⊗ multiplier b

-- (a(i,j) − a(i,k)·w1) − a(i,k+1)·w2
unfoldable pub rank2_at : ℕ → ℕ → Float → Float → ℕ → Matrix → Matrix
rank2_at k j w1 w2 i M = entry M i j (M i j ⊖ M i k ⊗ w1 ⊖ M i (k + 1) ⊗ w2)

-- column j is updated, then w1 and w2 are stored in row j
unfoldable pub rank2_by : ℕ → ℕ → ℕ → Float → Float → Matrix → Matrix
rank2_by n k j w1 w2 M = entry (entry (for j n (rank2_at k j w1 w2) M) j k w1) j (k + 1) w2

unfoldable pub rank2 : ℕ → ℕ → Block → ℕ → Matrix → Matrix
rank2 n k b j M = rank2_by n k j (work1 b (M j k) (M j (k + 1))) (work2 b (M j k) (M j (k + 1))) M

unfoldable pub update2 : ℕ → ℕ → Matrix → Matrix
update2 n k M = for (k + 2) n (rank2 n k (block_at M k)) M
