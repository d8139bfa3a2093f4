-- The updates, from what their parts leave in the slice. Assumes nothing.
use mathlib.Core.Path.{◌≡◌, ◌∙◌, ap}
use mathlib.Core.List.{List}
use Prim.Native.Nat.{ℕ, ◌+◌}
use lib.Ieee.{Float}
use Rattle.leaf.specs.Abs.{abs_of}
use Rattle.matrix.specs.Matrix.{Matrix}
use Rattle.matrix.specs.Loop.{for}
use Rattle.matrix.specs.Grid.{Grid, Holds, load}
use Rattle.matrix.proofs.Grids.{holds_then}
use Rattle.matrix.specs.Rounded.{◌⊘◌, one}
use Rattle.lblt_pivot.specs.Update.{rank1_at, rank1, scale_at, eliminate1, update1, block_by, block_at, rank2_by, rank2, update2}
use Rattle.lblt_pivot.specs.inner.Engine.{work_by, work_at, worked_at, store_work}
use Rattle.lblt_pivot.specs.declared.rank2.Block.{Block}
use Rattle.lblt_pivot.specs.declared.rank2.Work.{Work}

-- ---- size 1

module _ {g : Grid} {l l₁ : List Float} (n k : ℕ) where
  pub updates_column : (j : ℕ) (inv : Float) {ajk : Float} → ajk ≡ load g l j k → Holds g l l₁ (for j n (rank1_at k j inv ajk) (load g l)) → Holds g l l₁ (rank1 n k inv j (load g l))
  unfolding rank1
  updates_column j inv is all = rw is at all

  pub updates1 : {l₂ : List Float} {akk : Float} → akk ≡ load g l k k
      → Holds g l l₁ (for (k + 1) n (rank1 n k (one ⊘ akk)) (load g l)) → Holds g l₁ l₂ (for (k + 1) n (scale_at k (one ⊘ akk)) (load g l₁)) → Holds g l l₂ (update1 n k (load g l))
  unfolding update1 eliminate1
  updates1 {akk = akk} is ranked scaled = rw is at (holds_then (λ (M : Matrix). for (k + 1) n (scale_at k (one ⊘ akk)) M) ranked scaled)

-- ---- size 2

pub blocks : (M : Matrix) (k : ℕ) {a₁₀ d a₁₁ a₀₀ : Float}
    → a₁₀ ≡ M (k + 1) k → d ≡ abs_of a₁₀ → a₁₁ ≡ M (k + 1) (k + 1) → a₀₀ ≡ M k k
    → record { d = d; d11 = a₁₁ ⊘ d; d22 = a₀₀ ⊘ d; d21 = a₁₀ ⊘ d } ≡ block_at M k
unfolding block_at block_by
blocks M k {d = d} off size low high =
    let size' : d ≡ abs_of (M (k + 1) k) = size ∙ ap abs_of off in
    rw (off, size', low, high)

module _ {g : Grid} {l l₁ : List Float} (n k : ℕ) where
  pub updates_row : {l₂ : List Float} (b : Block) (j : ℕ) {w : Work}
      → w ≡ work_at (load g l) k b j → Holds g l l₁ (for j n (worked_at k j w) (load g l)) → Holds g l₁ l₂ (store_work k j w (load g l₁)) → Holds g l l₂ (rank2 n k b j (load g l))
  unfolding rank2 rank2_by store_work work_at work_by
  updates_row b j {w} is column stored = rw is at (holds_then (store_work k j w) column stored)

  pub updates2 : {b : Block} → b ≡ block_at (load g l) k → Holds g l l₁ (for (k + 2) n (rank2 n k b) (load g l)) → Holds g l l₁ (update2 n k (load g l))
  unfolding update2
  updates2 is all = rw is at all
