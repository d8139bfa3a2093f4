-- A pivot from row p at step k: the interchange, then the update.
use Rattle.std.specs.Prelude.{ℕ}
use Rattle.matrix.specs.Matrix.{Matrix}
use Rattle.lblt_pivot.specs.Interchange.{brought1, brought2}
use Rattle.lblt_pivot.specs.Update.{update1, update2}

unfoldable pub pivot1 : ℕ → ℕ → ℕ → Matrix → Matrix
pivot1 n k p M = update1 n k (brought1 n k p M)

unfoldable pub pivot2 : ℕ → ℕ → ℕ → Matrix → Matrix
pivot2 n k p M = update2 n k (brought2 n k p M)
