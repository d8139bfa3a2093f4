-- Demand 3 with one floor for all batches: they give what the one call gives, refused with the same code and row, and their counts add up to its count. Assumes nothing.
use mathlib.Core.List.{List}
use Prim.Native.Nat.{ℕ, ◌≤◌}
use lib.ListN.{length}
use lib.Ieee.{Float}
use Rattle.answer.specs.Answer.{Answer}
use Rattle.matrix.specs.Matrix.{Matrix}
use Rattle.matrix.specs.Grid.{load}
use Rattle.matrix.specs.Layouts.{in_room, lower}
use Rattle.matrix.specs.Sizes.{Fits}
use Rattle.cholesky.specs.declared.Floored.{Floored}
use Rattle.cholesky.specs.Floored.{ExtendedFloored}
use Rattle.cholesky.specs.Batches.{Rising, SameAsOne}
use Rattle.cholesky.specs.Arriving.{ArrivedAsOne}
use Rattle.cholesky.proofs.Refusals.{floor_names}
use Rattle.cholesky.proofs.Arriving.{arriving_by}
use Rattle.cholesky.proofs.Handed.{handed_none}
use Rattle.cholesky.proofs.Demand3.{demand3_by}
use Rattle.floor_laws.specs.Batches.{FlooredBatches}
use Rattle.floor_laws.specs.Arriving.{FlooredArriving}
use Rattle.floor_laws.specs.Counts.{CountsAdd}
use Rattle.floor_laws.proofs.Counts.{handed_alone, arriving_alone, arriving_counts, handed_arriving}

-- The one call passes codes 1 to 3.
module _ (s : Float) (room n : ℕ) (l₀ : List Float) (fits : Fits (in_room n room) 0 (length l₀)) where
  -- on one buffer
  pub floored_demand3 : {e c : ℕ} {cuts : List ℕ} {l : List Float} {r : Answer} {total : ℕ} {whole : List Float} {f : Floored} → Rising 0 cuts e → e ≤ n
      → FlooredBatches s room 0 l₀ cuts c l r total → ExtendedFloored s (in_room n room) 0 l₀ whole f
      → SameAsOne room n l₀ e c l r whole f.answer × CountsAdd n e r total f.used
  floored_demand3 rising upto batches call = (
    demand3_by (floor_names s) room n l₀ fits rising upto (handed_alone batches) call.extended,
    arriving_counts s room n l₀ fits rising upto (handed_arriving s room n l₀ fits handed_none rising upto batches) call,
  )

  -- on rows that arrive
  pub floored_arriving : {e c : ℕ} {cuts : List ℕ} {M N : Matrix} {r : Answer} {total : ℕ} {whole : List Float} {f : Floored} → Rising 0 cuts e → e ≤ n
      → FlooredArriving s (load (lower (in_room n room)) l₀) 0 M cuts c N r total → ExtendedFloored s (in_room n room) 0 l₀ whole f
      → ArrivedAsOne n e c N r (load (lower (in_room n room)) whole) f.answer × CountsAdd n e r total f.used
  floored_arriving rising upto rows call =
      (arriving_by (floor_names s) room n l₀ fits rising upto (arriving_alone rows) call.extended, arriving_counts s room n l₀ fits rising upto rows call)
