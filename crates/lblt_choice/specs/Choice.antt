-- Which pivot step k takes, in a matrix of order n.
use Rattle.std.specs.Prelude.{cond, ℕ, ◌+◌, ltb, Float}
use Rattle.std.specs.Float.{binary64}
use Rattle.std.specs.Float.Ieee.{of_bits, lt, le, eq}
use Rattle.leaf.specs.Abs.{abs_of}
use Rattle.leaf.specs.Maximum.{maximum_of}
use Rattle.matrix.specs.Matrix.{Matrix}
use Rattle.matrix.specs.Loop.{for}
use Rattle.matrix.specs.Rounded.{◌⊗◌, ◌⊘◌, plus_zero}
use Rattle.lblt_choice.specs.declared.Largest.{Largest}
use Rattle.lblt_choice.specs.declared.Choice.{Choice}
use Rattle.lblt_choice.specs.declared.Choice.TheVariants.{ZeroColumn, One, Two}

-- 0.6403882032022076
abbrev pub α : Float
α = of_bits binary64 0x3fe4_7e0f_66af_ed07

-- row i of column k replaces the largest so far only if it is greater
unfoldable pub greater : Matrix → ℕ → ℕ → Largest → Largest
greater M k i s = cond (lt s.colmax (abs_of (M i k))) (record { imax = i; colmax = abs_of (M i k) }) s

-- the largest entry below the diagonal of column k; 0 where no rows are left
unfoldable pub column_max : ℕ → Matrix → ℕ → Largest
column_max n M k =
    cond (ltb (k + 1) n)
    (for (k + 2) n (greater M k) (record { imax = k + 1; colmax = abs_of (M (k + 1) k) }))
    (record { imax = 0; colmax = plus_zero })

-- the maximum of what is met, with entry (i, j)
unfoldable pub along_row : Matrix → ℕ → ℕ → Float → Float
along_row M i j s = maximum_of s (abs_of (M i j))

unfoldable pub down_column : Matrix → ℕ → ℕ → Float → Float
down_column M i j s = maximum_of s (abs_of (M j i))

-- the largest entry of row i of the symmetric matrix from column k on, the diagonal left out
unfoldable pub row_max : ℕ → Matrix → ℕ → ℕ → Float
row_max n M k i = for (i + 1) n (down_column M i) (for k i (along_row M i) plus_zero)

-- where the diagonal is small against its column: the ratio decides for it, else row imax is taken
unfoldable pub contest : Matrix → ℕ → Largest → Float → Choice
contest M k top rowmax =
    cond (le (α ⊗ top.colmax ⊗ (top.colmax ⊘ rowmax)) (abs_of (M k k))) (One k)
    (cond (lt (abs_of (M top.imax top.imax)) (α ⊗ rowmax)) (Two top.imax) (One top.imax))

-- no pivot, the diagonal, or the contest of two rows
unfoldable pub choice_by : ℕ → Matrix → ℕ → Largest → Choice
choice_by n M k top =
    cond (eq (maximum_of (abs_of (M k k)) top.colmax) plus_zero) ZeroColumn
    (cond (lt (abs_of (M k k)) (α ⊗ top.colmax)) (contest M k top (row_max n M k top.imax)) (One k))

unfoldable pub choose : ℕ → Matrix → ℕ → Choice
choose n M k = choice_by n M k (column_max n M k)
