-- A pivot stores nothing outside the lower triangle. Assumes nothing.
use Prim.Native.Nat.{ℕ, ◌+◌, ◌≤◌, ◌<◌}
use native.Mathlib.Omega.{arith}
use lib.Dec.{eqb}
use borrow.Author.Tests.{eqb-false}
use Rattle.answer.proofs.Tests.{either}
use Rattle.matrix.specs.Matrix.{Matrix}
use Rattle.matrix.specs.Layouts.{lower}
use Rattle.matrix.specs.declared.Layout.{Layout}
use Rattle.matrix.proofs.Loops.{for_keeps}
use Rattle.matrix.proofs.Grids.{Bare, bare_entry, bare_exchange}
use Rattle.matrix.proofs.Places.{in_lower_law}
use Rattle.matrix.specs.Loop.{for}
use Rattle.matrix.specs.Rounded.{◌⊘◌, one}
use Rattle.lblt_pivot.specs.Interchange.{swap_below, swap_between, interchange, brought1, brought2}
use Rattle.lblt_pivot.specs.Update.{rank1_at, rank1, scale_at, eliminate1, update1, block_at, rank2_at, rank2_by, rank2, update2}
use Rattle.lblt_pivot.specs.Pivot.{pivot1, pivot2}
use Rattle.lblt_pivot.specs.declared.rank2.Block.{Block}

module _ (y : Layout) where
  abbrev n : ℕ
  n = y.order

  abbrev Low : Matrix → Type 0
  Low M = Bare (lower y) M

  -- ---- the interchange

  interchange_low : (t p : ℕ) (M : Matrix) → t < p → p < n → Low M → Low (interchange n t p M)
  unfolding interchange swap_below swap_between
  interchange_low t p M before upto low =
      bare_exchange t t p p (in_lower_law y t t (omega arith) (omega arith)) (in_lower_law y p p (omega arith) upto)
      (for_keeps Low (t + 1) p (swap_between t p) (for (p + 1) n (swap_below t p) M)
      (for_keeps Low (p + 1) n (swap_below t p) M low
      (λ i N from below is. bare_exchange i t i p (in_lower_law y i t (omega arith) below) (in_lower_law y i p (omega arith) below) is))
      (λ j N from below is. bare_exchange j t p j (in_lower_law y j t (omega arith) (omega arith)) (in_lower_law y p j (omega arith) upto) is))

  brought1_low : (k p : ℕ) (M : Matrix) → k ≤ p → p < n → Low M → Low (brought1 n k p M)
  unfolding brought1
  brought1_low k p M from upto low =
      either Low (eqb p k) (λ here. low) (λ there. let other = eqb-false p k there in interchange_low k p M (omega (arith, other)) upto low)

  brought2_low : (k p : ℕ) (M : Matrix) → k < p → p < n → Low M → Low (brought2 n k p M)
  unfolding brought2
  brought2_low k p M from upto low =
      either Low (eqb p (k + 1)) (λ here. low)
      (λ there.
      let other = eqb-false p (k + 1) there in
      bare_exchange (k + 1) k p k (in_lower_law y (k + 1) k (omega arith) (omega (arith, other))) (in_lower_law y p k (omega arith) upto)
      (interchange_low (k + 1) p M (omega (arith, other)) upto low))

  -- ---- the update

  update1_low : (k : ℕ) (M : Matrix) → k < n → Low M → Low (update1 n k M)
  unfolding update1 eliminate1 rank1 rank1_at scale_at
  update1_low k M upto low =
      for_keeps Low (k + 1) n (scale_at k (one ⊘ M k k)) (for (k + 1) n (rank1 n k (one ⊘ M k k)) M)
      (for_keeps Low (k + 1) n (rank1 n k (one ⊘ M k k)) M low
      (λ j N from below is. for_keeps Low j n (rank1_at k j (one ⊘ M k k) (N j k)) N is (λ i O above under has. bare_entry i j _ (in_lower_law y i j above under) has)))
      (λ i N from below is. bare_entry i k _ (in_lower_law y i k (omega arith) below) is)

  rank2_low : (k : ℕ) (b : Block) (j : ℕ) (M : Matrix) → k + 2 ≤ j → j < n → Low M → Low (rank2 n k b j M)
  unfolding rank2 rank2_by rank2_at
  rank2_low k b j M from below low =
      bare_entry j (k + 1) _ (in_lower_law y j (k + 1) (omega arith) below)
      (bare_entry j k _ (in_lower_law y j k (omega arith) below)
      (for_keeps Low j n _ M low (λ i N above under is. bare_entry i j _ (in_lower_law y i j above under) is)))

  update2_low : (k : ℕ) (M : Matrix) → Low M → Low (update2 n k M)
  unfolding update2
  update2_low k M low = for_keeps Low (k + 2) n (rank2 n k (block_at M k)) M low (λ j N from below is. rank2_low k (block_at M k) j N from below is)

  -- ---- the pivot

  pub pivot1_low : (k p : ℕ) (M : Matrix) → k ≤ p → p < n → Low M → Low (pivot1 n k p M)
  unfolding pivot1
  pivot1_low k p M from upto low = update1_low k (brought1 n k p M) (omega arith) (brought1_low k p M from upto low)

  pub pivot2_low : (k p : ℕ) (M : Matrix) → k < p → p < n → Low M → Low (pivot2 n k p M)
  unfolding pivot2
  pivot2_low k p M from upto low = update2_low k (brought2 n k p M) (brought2_low k p M from upto low)
