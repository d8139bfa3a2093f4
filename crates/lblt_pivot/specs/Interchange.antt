-- The two-sided interchange of rows and columns t and p of a lower triangle, t < p. Columns before t stay.
use Rattle.std.specs.Prelude.{cond, ℕ, ◌+◌, eqb}
use Rattle.matrix.specs.Matrix.{Matrix, exchange}
use Rattle.matrix.specs.Loop.{for}

-- row i below p: columns t and p
unfoldable pub swap_below : ℕ → ℕ → ℕ → Matrix → Matrix
swap_below t p i M = exchange M i t i p

-- t < j < p: (j, t) with (p, j)
unfoldable pub swap_between : ℕ → ℕ → ℕ → Matrix → Matrix
swap_between t p j M = exchange M j t p j

unfoldable pub interchange : ℕ → ℕ → ℕ → Matrix → Matrix
interchange n t p M = exchange (for (t + 1) p (swap_between t p) (for (p + 1) n (swap_below t p) M)) t t p p

-- a pivot p of size 1 at row k
unfoldable pub brought1 : ℕ → ℕ → ℕ → Matrix → Matrix
brought1 n k p M = cond (eqb p k) M (interchange n k p M)

-- a pivot p of size 2 at rows k and k + 1: its target is k + 1, and (k + 1, k) is exchanged with (p, k)
unfoldable pub brought2 : ℕ → ℕ → ℕ → Matrix → Matrix
brought2 n k p M = cond (eqb p (k + 1)) M (exchange (interchange n (k + 1) p M) (k + 1) k p k)
