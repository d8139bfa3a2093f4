-- A step leaves the columns before its row as they were: finished columns are neither swapped nor updated. Assumes nothing.
use mathlib.Core.Path.{◌≡◌, refl, ◌∙◌}
use Prim.Native.Nat.{ℕ, ◌+◌, ◌≤◌, ◌<◌}
use native.Mathlib.Omega.{arith}
use lib.Dec.{eqb}
use lib.Ieee.{Float}
use Rattle.matrix.specs.Matrix.{Matrix, entry}
use Rattle.matrix.specs.Loop.{for}
use Rattle.matrix.specs.Rounded.{◌⊖◌, ◌⊗◌}
use Rattle.answer.proofs.Tests.{either}
use Rattle.matrix.proofs.Loops.{for_still}
use Rattle.matrix.proofs.Stores.{entry_column, exchange_skip, swaps_skip, column_other}
use Rattle.lblt_choice.specs.Choice.{choose}
use Rattle.lblt_pivot.specs.Interchange.{swap_below, swap_between, interchange, brought1, brought2}
use Rattle.lblt_pivot.specs.Update.{block_at, work1, work2, rank2_at, rank2_by, rank2, update2}
use Rattle.lblt_pivot.specs.Pivot.{pivot1, pivot2}
use Rattle.lblt.specs.Step.{State, take, step}
use Rattle.lblt_choice.specs.declared.Choice.{Choice}
use Rattle.lblt_choice.specs.declared.Choice.TheVariants.{ZeroColumn, One, Two}
use Rattle.lblt_pivot.specs.declared.rank2.Block.{Block}
use Rattle.lblt_pivot.proofs.Entries.{updated1}
use Rattle.lblt_choice.proofs.Range.{Within, choose_range}

module _ (n : ℕ) (row column : ℕ) where
  swap_earlier : (t p : ℕ) (M : Matrix) → column < t → t ≤ p → interchange n t p M row column ≡ M row column
  unfolding interchange swap_below swap_between
  swap_earlier t p M before upto =
      exchange_skip (for (t + 1) p (swap_between t p) (for (p + 1) n (swap_below t p) M)) t t p p row column (omega arith) (omega arith)
      ∙ swaps_skip (λ j. j) (λ j. t) (λ j. p) (λ j. j) (t + 1) p (for (p + 1) n (swap_below t p) M) row column (omega arith)
      ∙ swaps_skip (λ i. i) (λ i. t) (λ i. i) (λ i. p) (p + 1) n M row column (omega arith)

  module _ (k p : ℕ) (M : Matrix) (before : column < k) where
    brought1_earlier : k ≤ p → brought1 n k p M row column ≡ M row column
    unfolding brought1
    brought1_earlier upto = either (λ (N : Matrix). N row column ≡ M row column) (eqb p k) (λ same. refl) (λ other. swap_earlier k p M before upto)

    brought2_earlier : k < p → brought2 n k p M row column ≡ M row column
    unfolding brought2
    brought2_earlier upto =
        either (λ (N : Matrix). N row column ≡ M row column) (eqb p (k + 1)) (λ same. refl)
        (λ other. exchange_skip (interchange n (k + 1) p M) (k + 1) k p k row column (omega arith) (omega arith) ∙ swap_earlier (k + 1) p M (omega arith) (omega arith))

  rank2_earlier : (k : ℕ) (b : Block) (j : ℕ) (M : Matrix) → column < k → k + 2 ≤ j → rank2 n k b j M row column ≡ M row column
  unfolding rank2 rank2_by rank2_at
  rank2_earlier k b j M before after =
      entry_column (entry (for j n (rank2_at k j w1 w2) M) j k w1) j (k + 1) w2 row column (omega arith)
      ∙ entry_column (for j n (rank2_at k j w1 w2) M) j k w1 row column (omega arith)
      ∙ column_other j (λ i N. N i j ⊖ N i k ⊗ w1 ⊖ N i (k + 1) ⊗ w2) j n M row column (omega arith)
    where
      w1 : Float
      w1 = work1 b (M j k) (M j (k + 1))

      w2 : Float
      w2 = work2 b (M j k) (M j (k + 1))

  update2_earlier : (k : ℕ) (M : Matrix) → column < k → update2 n k M row column ≡ M row column
  unfolding update2
  update2_earlier k M before = for_still (λ (N : Matrix). N row column) (k + 2) n (rank2 n k (block_at M k)) M (λ j N low high. rank2_earlier k (block_at M k) j N before low)

  module _ (k p : ℕ) (M : Matrix) (before : column < k) where
    pub pivot1_earlier : k ≤ p → pivot1 n k p M row column ≡ M row column
    unfolding pivot1
    pivot1_earlier upto = (updated1 n k (brought1 n k p M)).earlier row column before ∙ brought1_earlier k p M before upto

    pub pivot2_earlier : k < p → pivot2 n k p M row column ≡ M row column
    unfolding pivot2
    pivot2_earlier upto = update2_earlier k (brought2 n k p M) before ∙ brought2_earlier k p M before upto

  take_earlier : (S : State) (c : Choice) → column < S.row → Within n S.row c → (take n S c).matrix row column ≡ S.matrix row column
  unfolding take Within
  take_earlier S ZeroColumn before range = refl
  take_earlier S (One p) before range = pivot1_earlier S.row p S.matrix before range.0
  take_earlier S (Two p) before range = pivot2_earlier S.row p S.matrix before range.0

  pub step_earlier : (S : State) → S.row < n → column < S.row → (step n S).matrix row column ≡ S.matrix row column
  unfolding step
  step_earlier S more before = take_earlier S (choose n S.matrix S.row) before (choose_range n S.matrix S.row more)
