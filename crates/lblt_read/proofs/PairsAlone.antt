-- The determinant hangs on the factor and the pairs of its record alone. Assumes nothing.
use mathlib.Core.List.{List}
use mathlib.Core.Path.{◌≡◌, ap}
use Prim.Native.Nat.{ℕ}
use lib.Ieee.{Float}
use Rattle.matrix.specs.Matrix.{Matrix}
use Rattle.matrix.specs.Rounded.{◌⊗◌, one}
use Rattle.pivots.proofs.SamePairs.{SamePairs, size_alike, forwards_alike}
use Rattle.lblt_solve_columns.specs.Column.{block_determinant}
use Rattle.lblt_read.specs.Diagonal.{times_block, determinant_of}

pub determinant_alike : {n : ℕ} {words words' : List ℕ} → SamePairs n words words' → (A : Matrix) → determinant_of n A words ≡ determinant_of n A words'
unfolding determinant_of times_block
determinant_alike {n} {words} {words'} same A =
    forwards_alike same (times_block A words) (times_block A words')
    (λ k below x. ap (λ (d : Float). x ⊗ d) (size_alike same k below (A k k) (block_determinant A k))) one
