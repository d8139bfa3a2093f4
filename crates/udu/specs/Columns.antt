-- UDU of a matrix P of order n, column by column from the last. Each product, sum and quotient is rounded once.
use Rattle.std.specs.Prelude.{Bool, true, false, cond, ◌&&◌, ℕ, ◌+◌, leb, eqb, Float}
use Rattle.std.specs.Float.Ieee.{eq}
use Rattle.matrix.specs.Matrix.{Matrix, all_zero}
use Rattle.matrix.specs.Loop.{for, falling}
use Rattle.matrix.specs.Rounded.{◌⊕◌, ◌⊖◌, ◌⊗◌, ◌⊘◌, plus_zero, one}

-- what has been found: u, and the diagonal d
pub record Factors : Type 0 where
  pub u : Matrix
  pub d : ℕ → Float

unfoldable pub nothing : Factors
nothing = record { u = all_zero; d = λ k. plus_zero }

-- column j's two sums, from +0 over the columns k after it, upwards: of d(k)·(u(j,k)·u(j,k)), and of (d(k)·u(j,k))·u(i,k)
abbrev pub plus_square : Factors → ℕ → ℕ → Float → Float
plus_square F j k s = s ⊕ F.d k ⊗ (F.u j k ⊗ F.u j k)

abbrev pub plus_cross : Factors → ℕ → ℕ → ℕ → Float → Float
plus_cross F j i k s = s ⊕ (F.d k ⊗ F.u j k) ⊗ F.u i k

unfoldable pub square_sum : ℕ → Factors → ℕ → Float
unfolding for
square_sum n F j = for (j + 1) n (plus_square F j) plus_zero

unfoldable pub cross_sum : ℕ → Factors → ℕ → ℕ → Float
unfolding for
cross_sum n F j i = for (j + 1) n (plus_cross F j i) plus_zero

-- d(j): the last column's is P's
unfoldable pub udu_diagonal : ℕ → Matrix → Factors → ℕ → Float
unfolding square_sum
udu_diagonal n P F j = cond (eqb (j + 1) n) (P j j) (P j j ⊖ square_sum n F j)

-- u(i, j) for i up to j, where d(j) is x: in the last column, in a further one, in either
unfoldable pub last_entry : Matrix → Float → ℕ → ℕ → Float
last_entry P x j i = (one ⊘ x) ⊗ P i j

unfoldable pub further_entry : ℕ → Matrix → Factors → Float → ℕ → ℕ → Float
unfolding cross_sum
further_entry n P F x j i = cond (eqb i j) one ((P i j ⊖ cross_sum n F j i) ⊘ x)

unfoldable pub udu_entry : ℕ → Matrix → Factors → Float → ℕ → ℕ → Float
unfolding last_entry further_entry
udu_entry n P F x j i = cond (eqb (j + 1) n) (last_entry P x j i) (further_entry n P F x j i)

-- F with x as d(j), and with v as column j of u down to the diagonal
unfoldable pub with_diagonal : Factors → ℕ → Float → Factors
with_diagonal F j x = record { u = F.u; d = λ k. cond (eqb k j) x (F.d k) }

unfoldable pub with_column : Factors → ℕ → (ℕ → Float) → Factors
with_column F j v = record { u = λ i k. cond (eqb k j && leb i j) (v i) (F.u i k); d = F.d }

-- all columns so far are found, or the diagonal of a column is zero
pub data UduRun : Type 0 where
  accepted : Factors → UduRun
  refused : ℕ → Factors → UduRun

-- column j with the diagonal x, by whether that is zero
abbrev pub column_by : ℕ → Matrix → Factors → ℕ → Float → Bool → UduRun
column_by n P F j x true = refused j (with_diagonal F j x)
column_by n P F j x false = accepted (with_column (with_diagonal F j x) j (udu_entry n P F x j))

unfoldable pub udu_column : ℕ → Matrix → ℕ → UduRun → UduRun
udu_column n P j (accepted F) = let x = udu_diagonal n P F j in column_by n P F j x (eq x plus_zero)
udu_column n P j (refused k F) = refused k F

unfoldable pub udu_columns : ℕ → Matrix → UduRun
unfolding falling udu_column
udu_columns n P = falling n (udu_column n P) (accepted nothing)
