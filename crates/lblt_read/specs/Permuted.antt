-- `l_permuted`: the factor Pᵀ L, worked out from the identity by columns.
use Rattle.std.specs.Prelude.{cond, ◌&&◌, List, ℕ, ◌+◌, eqb, ltb, Float}
use Rattle.matrix.specs.Matrix.{Matrix}
use Rattle.matrix.specs.Loop.{for}
use Rattle.matrix.specs.Grid.{mask}
use Rattle.matrix.specs.Layouts.{square}
use Rattle.matrix.specs.Rounded.{◌⊕◌, ◌⊗◌, plus_zero, one}
use Rattle.pivots.specs.Words.{index_at}
use Rattle.pivots.specs.Blocks.{by_size, forwards}

unfoldable pub identity : Matrix
identity i j = cond (eqb j i) one plus_zero

-- columns p and q exchanged, in the rows below n
unfoldable pub swap_columns : ℕ → ℕ → ℕ → Matrix → Matrix
swap_columns n p q L row c = cond (ltb row n) (cond (eqb c q) (L row p) (cond (eqb c p) (L row q) (L row c))) (L row c)

unfoldable pub gather_product : Matrix → Matrix → ℕ → ℕ → ℕ → Float → Float
gather_product A L k row i x = x ⊕ L row i ⊗ A i k

-- column k, in the rows below n, plus L(row,i)·A(i,k) for i in from..n
unfoldable pub gather_column : ℕ → Matrix → ℕ → ℕ → Matrix → Matrix
gather_column n A k from L row c = cond (ltb row n && eqb c k) (for from n (gather_product A L k row) (L row k)) (L row c)

unfoldable pub permuted_block : ℕ → Matrix → List ℕ → ℕ → Matrix → Matrix
permuted_block n A words k L =
    by_size words k
    (gather_column n A k (k + 1) (swap_columns n k (index_at words k) L))
    (gather_column n A (k + 1) (k + 2) (gather_column n A k (k + 2) (swap_columns n (k + 1) (index_at words k) L)))

unfoldable pub l_permuted_of : ℕ → Matrix → List ℕ → Matrix
l_permuted_of n A words = forwards n words (permuted_block n A words) (mask (square n) identity)
