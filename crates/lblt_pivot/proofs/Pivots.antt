-- A pivot, from the interchange and the update. Assumes nothing.
use mathlib.Core.List.{List}
use Prim.Native.Nat.{ℕ}
use lib.Ieee.{Float}
use Rattle.matrix.specs.Grid.{Grid, Holds, load}
use Rattle.matrix.proofs.Grids.{holds_then}
use Rattle.lblt_pivot.specs.Interchange.{brought1, brought2}
use Rattle.lblt_pivot.specs.Update.{update1, update2}
use Rattle.lblt_pivot.specs.Pivot.{pivot1, pivot2}

module _ {g : Grid} {l l₁ l₂ : List Float} (n k p : ℕ) where
  pub pivots1 : Holds g l l₁ (brought1 n k p (load g l)) → Holds g l₁ l₂ (update1 n k (load g l₁)) → Holds g l l₂ (pivot1 n k p (load g l))
  unfolding pivot1
  pivots1 brought updated = holds_then (update1 n k) brought updated

  pub pivots2 : Holds g l l₁ (brought2 n k p (load g l)) → Holds g l₁ l₂ (update2 n k (load g l₁)) → Holds g l l₂ (pivot2 n k p (load g l))
  unfolding pivot2
  pivots2 brought updated = holds_then (update2 n k) brought updated
