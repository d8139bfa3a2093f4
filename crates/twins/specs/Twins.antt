-- Twin rows of a symmetric matrix that is given by its lower part.
use Rattle.std.specs.Prelude.{◌≡◌, ℕ, ◌<◌, cond, nat_le}
use Rattle.matrix.specs.Matrix.{Matrix}

-- the symmetric matrix with the lower part of M
unfoldable pub symmetric : Matrix → Matrix
symmetric M i j = cond (nat_le j i) (M i j) (M j i)

-- rows p and q are the same, bit for bit: +0 and −0 differ, and NaN equals NaN
abbrev pub Twins : ℕ → Matrix → ℕ → ℕ → Type 0
Twins n M p q = (k : ℕ) → k < n → symmetric M q k ≡ symmetric M p k
