-- Two neighbouring columns j and j + 1 go together: row by row, both are updated. Assumes nothing.
use mathlib.Core.Path.{◌≡◌, refl, sym, ◌∙◌, ap}
use mathlib.Core.List.{List}
use Prim.Native.Nat.{ℕ, ◌+◌, ◌<◌}
use native.Mathlib.Omega.{arith}
use lib.Ieee.{Float, neg}
use Rattle.matrix.specs.Matrix.{Matrix, entry}
use Rattle.matrix.specs.Loop.{for}
use Rattle.matrix.specs.Grid.{Grid, Holds, load}
use Rattle.matrix.specs.Rounded.{◌⊕◌, ◌⊖◌, ◌⊗◌}
use Rattle.matrix.proofs.Loops.{for_first, for_past, for_fused}
use Rattle.matrix.proofs.Stores.{entry_row, entry_column, store_past, column_other}
use Rattle.matrix.proofs.Grids.{holds_then, holds_as}
use Rattle.lblt_pivot.specs.Update.{rank1_at, rank1, rank2_at, rank2_by, rank2}
use Rattle.lblt_pivot.specs.inner.Engine.{rank1_pair_at, work_by, work_at, worked_at, store_work, rank2_pair_at}
use Rattle.lblt_pivot.specs.declared.rank2.Block.{Block}
use Rattle.lblt_pivot.specs.declared.rank2.Work.{Work}
use Rattle.lblt_pivot.proofs.Entries.{rank1_other}

-- ---- size 1

module _ (k : ℕ) (inv : Float) where
  -- the value reads two entries
  alike1 : (M N : Matrix) (i c : ℕ) (ajk : Float) → N i c ≡ M i c → N i k ≡ M i k → N i c ⊕ N i k ⊗ neg inv ⊗ ajk ≡ M i c ⊕ M i k ⊗ neg inv ⊗ ajk
  alike1 M N i c ajk here there = rw (here, there)

  module _ (j : ℕ) (after : k < j) where
    apart1 : (x y : Float) (i r : ℕ) (M : Matrix) → rank1_at k (j + 1) inv y r (rank1_at k j inv x i M) ≡ rank1_at k j inv x i (rank1_at k (j + 1) inv y r M)
    unfolding rank1_at
    apart1 x y i r M =
        store_past M i j r (j + 1) (λ N. N i j ⊕ N i k ⊗ neg inv ⊗ x) (λ N. N r (j + 1) ⊕ N r k ⊗ neg inv ⊗ y) (omega arith)
        (λ z. alike1 M (entry M r (j + 1) z) i j x (entry_column M r (j + 1) z i j (omega arith)) (entry_column M r (j + 1) z i k (omega arith)))
        (λ z. alike1 M (entry M i j z) r (j + 1) y (entry_column M i j z r (j + 1) (omega arith)) (entry_column M i j z r k (omega arith)))

    pair1 : (n : ℕ) (M : Matrix) → j < n → for (j + 1) n (rank1_pair_at k j inv (M j k) (M (j + 1) k)) (rank1_at k j inv (M j k) j M) ≡ rank1 n k inv (j + 1) (rank1 n k inv j M)
    unfolding rank1 rank1_pair_at
    pair1 n M some =
        sym (ap (λ (x : Float). for (j + 1) n (rank1_at k (j + 1) inv x) (for j n (rank1_at k j inv (M j k)) M)) (rank1_other n k inv j M (j + 1) k (omega arith))
        ∙ ap (λ (N : Matrix). for (j + 1) n (rank1_at k (j + 1) inv (M (j + 1) k)) N) (for_first j n (rank1_at k j inv (M j k)) M some)
        ∙ for_fused (j + 1) n (rank1_at k j inv (M j k)) (rank1_at k (j + 1) inv (M (j + 1) k)) (rank1_at k j inv (M j k) j M)
        (λ r i N low less high. sym (apart1 (M j k) (M (j + 1) k) i r N)))

pub pairs1 : {g : Grid} {l l₁ l₂ : List Float} (n k : ℕ) (inv : Float) (j : ℕ) {ajk aj1k : Float}
    → k < j → j < n → ajk ≡ load g l j k → aj1k ≡ load g l (j + 1) k
    → Holds g l l₁ (rank1_at k j inv ajk j (load g l)) → Holds g l₁ l₂ (for (j + 1) n (rank1_pair_at k j inv ajk aj1k) (load g l₁))
    → Holds g l l₂ (rank1 n k inv (j + 1) (rank1 n k inv j (load g l)))
pairs1 {g} {l} n k inv j {ajk} {aj1k} after some left right first rest =
    holds_as (rw (left, right) at (holds_then (λ (M : Matrix). for (j + 1) n (rank1_pair_at k j inv ajk aj1k) M) first rest)) (pair1 k inv j after n (load g l) some)

pub pairs1_at : {g : Grid} {l l₁ l₂ : List Float} (k j : ℕ) (inv x y : Float) (i : ℕ) {aik aij aij1 : Float}
    → k < j → aik ≡ load g l i k → aij ≡ load g l i j → Holds g l l₁ (entry (load g l) i j (aij ⊕ aik ⊗ neg inv ⊗ x))
    → aij1 ≡ load g l₁ i (j + 1) → Holds g l₁ l₂ (entry (load g l₁) i (j + 1) (aij1 ⊕ aik ⊗ neg inv ⊗ y))
    → Holds g l l₂ (rank1_pair_at k j inv x y i (load g l))
unfolding rank1_pair_at rank1_at
pairs1_at {g} {l} {l₁} k j inv x y i {aik} {aij} after left here put₁ there put₂ =
    let left' : aik ≡ load g l₁ i k =
    left ∙ sym (ap (λ (M : Matrix). M i k) put₁.cells ∙ entry_column (load g l) i j (aij ⊕ aik ⊗ neg inv ⊗ x) i k (omega arith)) in
    holds_then (rank1_at k (j + 1) inv y i) (rw (here, left) at put₁) (rw (there, left') at put₂)

-- ---- size 2

same_work : (k : ℕ) (b : Block) (j : ℕ) (M N : Matrix) → M j k ≡ N j k → M j (k + 1) ≡ N j (k + 1) → work_at M k b j ≡ work_at N k b j
unfolding work_at
same_work k b j M N left right = rw (left, right)

module _ (k : ℕ) where
  -- the value reads three entries
  alike2 : (M N : Matrix) (i c : ℕ) (w : Work) → N i c ≡ M i c → N i k ≡ M i k → N i (k + 1) ≡ M i (k + 1)
      → N i c ⊖ N i k ⊗ w.w1 ⊖ N i (k + 1) ⊗ w.w2 ≡ M i c ⊖ M i k ⊗ w.w1 ⊖ M i (k + 1) ⊗ w.w2
  alike2 M N i c w here left right = rw (here, left, right)

  abbrev value2 : ℕ → ℕ → Work → Matrix → Float
  value2 i c w M = M i c ⊖ M i k ⊗ w.w1 ⊖ M i (k + 1) ⊗ w.w2

  module _ (j : ℕ) (after : k + 1 < j) where
    apart2 : (w v : Work) (i r : ℕ) (M : Matrix) → worked_at k (j + 1) v r (worked_at k j w i M) ≡ worked_at k j w i (worked_at k (j + 1) v r M)
    unfolding rank2_at
    apart2 w v i r M =
        store_past M i j r (j + 1) (value2 i j w) (value2 r (j + 1) v) (omega arith)
        (λ z. alike2 M (entry M r (j + 1) z) i j w (entry_column M r (j + 1) z i j (omega arith)) (entry_column M r (j + 1) z i k (omega arith)) (entry_column M r (j + 1) z i (k + 1) (omega arith)))
        (λ z. alike2 M (entry M i j z) r (j + 1) v (entry_column M i j z r (j + 1) (omega arith)) (entry_column M i j z r k (omega arith)) (entry_column M i j z r (k + 1) (omega arith)))

    -- a row below j of column j + 1 does not see what is stored in row j of an earlier column
    past_store : (c : ℕ) (x : Float) (v : Work) (i : ℕ) (M : Matrix) → c < j → j < i → worked_at k (j + 1) v i (entry M j c x) ≡ entry (worked_at k (j + 1) v i M) j c x
    unfolding rank2_at
    past_store c x v i M before below =
        store_past M j c i (j + 1) (λ N. x) (value2 i (j + 1) v) (omega arith) (λ z. refl)
        (λ z. alike2 M (entry M j c z) i (j + 1) v (entry_row M j c z i (j + 1) (omega arith)) (entry_row M j c z i k (omega arith)) (entry_row M j c z i (k + 1) (omega arith)))

    past_work : (w v : Work) (i : ℕ) (M : Matrix) → j < i → worked_at k (j + 1) v i (store_work k j w M) ≡ store_work k j w (worked_at k (j + 1) v i M)
    unfolding store_work
    past_work w v i M below =
        past_store (k + 1) w.w2 v i (entry M j k w.w1) after below
        ∙ ap (λ (N : Matrix). entry N j (k + 1) w.w2) (past_store k w.w1 v i M (omega arith) below)

    -- what column j leaves of row j + 1 in an earlier column
    kept2 : (n : ℕ) (w : Work) (M : Matrix) (c : ℕ) → c < j → store_work k j w (for j n (worked_at k j w) M) (j + 1) c ≡ M (j + 1) c
    unfolding store_work rank2_at
    kept2 n w M c before =
        entry_row (entry (for j n (worked_at k j w) M) j k w.w1) j (k + 1) w.w2 (j + 1) c (omega arith)
        ∙ entry_row (for j n (worked_at k j w) M) j k w.w1 (j + 1) c (omega arith)
        ∙ column_other j (λ i N. value2 i j w N) j n M (j + 1) c (omega arith)

    pair2 : (n : ℕ) (b : Block) (M : Matrix) → j < n
        → store_work k (j + 1) (work_at M k b (j + 1)) (store_work k j (work_at M k b j) (for (j + 1) n (rank2_pair_at k j (work_at M k b j) (work_at M k b (j + 1))) (worked_at k j (work_at M k b j) j M)))
        ≡ rank2 n k b (j + 1) (rank2 n k b j M)
    unfolding rank2 rank2_by store_work work_at work_by
    pair2 n b M some =
        sym (ap (λ (x : Work). store_work k (j + 1) x (for (j + 1) n (worked_at k (j + 1) x) (store_work k j w (for j n (worked_at k j w) M)))) works
        ∙ ap (store_work k (j + 1) v) (for_past (j + 1) n (worked_at k (j + 1) v) (store_work k j w) (for j n (worked_at k j w) M) (λ i N low high. past_work w v i N (omega arith)))
        ∙ ap (λ (N : Matrix). store_work k (j + 1) v (store_work k j w N)) (ap (for (j + 1) n (worked_at k (j + 1) v)) (for_first j n (worked_at k j w) M some) ∙ together))
      where
        w : Work
        w = work_at M k b j

        v : Work
        v = work_at M k b (j + 1)

        works : work_at (store_work k j w (for j n (worked_at k j w) M)) k b (j + 1) ≡ v
        works = same_work k b (j + 1) (store_work k j w (for j n (worked_at k j w) M)) M (kept2 n w M k (omega arith)) (kept2 n w M (k + 1) after)

        together : for (j + 1) n (worked_at k (j + 1) v) (for (j + 1) n (worked_at k j w) (worked_at k j w j M)) ≡ for (j + 1) n (rank2_pair_at k j w v) (worked_at k j w j M)
        together = unfold rank2_pair_at in for_fused (j + 1) n (worked_at k j w) (worked_at k (j + 1) v) (worked_at k j w j M) (λ r i N low less high. sym (apart2 w v i r N))

pub pairs2 : {g : Grid} {l l₁ l₂ l₃ l₄ : List Float} (n k : ℕ) (b : Block) (j : ℕ) {w v : Work}
    → k + 1 < j → j < n → w ≡ work_at (load g l) k b j → v ≡ work_at (load g l) k b (j + 1)
    → Holds g l l₁ (worked_at k j w j (load g l)) → Holds g l₁ l₂ (for (j + 1) n (rank2_pair_at k j w v) (load g l₁))
    → Holds g l₂ l₃ (store_work k j w (load g l₂)) → Holds g l₃ l₄ (store_work k (j + 1) v (load g l₃))
    → Holds g l l₄ (rank2 n k b (j + 1) (rank2 n k b j (load g l)))
pairs2 {g} {l} n k b j {w} {v} after some first second row rest stored stored' =
    holds_as
    (rw (first, second) at
    (holds_then (store_work k (j + 1) v) (holds_then (store_work k j w) (holds_then (λ (M : Matrix). for (j + 1) n (rank2_pair_at k j w v) M) row rest) stored) stored'))
    (pair2 k j after n b (load g l) some)

pub pairs2_at : {g : Grid} {l l₁ l₂ : List Float} (k j : ℕ) (w v : Work) (i : ℕ) {aik aik1 aij aij1 : Float}
    → k + 1 < j → aik ≡ load g l i k → aik1 ≡ load g l i (k + 1) → aij ≡ load g l i j → Holds g l l₁ (entry (load g l) i j (aij ⊖ aik ⊗ w.w1 ⊖ aik1 ⊗ w.w2))
    → aij1 ≡ load g l₁ i (j + 1) → Holds g l₁ l₂ (entry (load g l₁) i (j + 1) (aij1 ⊖ aik ⊗ v.w1 ⊖ aik1 ⊗ v.w2))
    → Holds g l l₂ (rank2_pair_at k j w v i (load g l))
unfolding rank2_pair_at rank2_at
pairs2_at {g} {l} {l₁} k j w v i {aik} {aik1} {aij} after left right here put₁ there put₂ =
    let left' : aik ≡ load g l₁ i k =
    left ∙ sym (ap (λ (M : Matrix). M i k) put₁.cells ∙ entry_column (load g l) i j (aij ⊖ aik ⊗ w.w1 ⊖ aik1 ⊗ w.w2) i k (omega arith)) in
    let right' : aik1 ≡ load g l₁ i (k + 1) =
    right ∙ sym (ap (λ (M : Matrix). M i (k + 1)) put₁.cells ∙ entry_column (load g l) i j (aij ⊖ aik ⊗ w.w1 ⊖ aik1 ⊗ w.w2) i (k + 1) (omega arith)) in
    holds_then (worked_at k (j + 1) v i) (rw (here, left, right) at put₁) (rw (there, left', right') at put₂)
