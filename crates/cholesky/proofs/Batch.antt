-- A batch from m to n, over the finished rows before m and the given ones from m on, runs as the one call on n rows does, and their counts add up.
-- Assumes nothing.
use mathlib.Core.Path.{◌≡◌, refl, sym, ◌∙◌, ap, ap₂, subst}
use mathlib.Core.Bool.{Bool, true, false}
use mathlib.Core.Logic.{inl, inr}
use Prim.Native.Nat.{ℕ, zero, suc, ◌+◌, ◌≤◌, ◌<◌}
use native.Mathlib.Numerals.{add-one}
use native.Mathlib.Omega.{arith}
use lib.Dec.{ltb}
use borrow.Author.Tests.{lt-ltb, le-ltb, ltb-true, ltb-false}
use Rattle.answer.specs.Answer.{Done, is_done}
use Rattle.matrix.specs.Matrix.{Matrix, entry}
use Rattle.matrix.specs.Loop.{for}
use Rattle.matrix.specs.Rounded.{◌⊘◌}
use Rattle.matrix.proofs.Loops.{for_none, for_more, for_same, for_join}
use Rattle.matrix.proofs.Stores.{entry_row}
use Rattle.cholesky.specs.Run.{Rule, Outcome, updates, below, continued, judged_column, worked, factor_column, started, factor_columns}
use Rattle.cholesky.proofs.Parts.{Where, within, above, beside, where?, updated_agree}
use Rattle.cholesky.specs.Used.{used_from, used_by}
use Rattle.cholesky.proofs.Onward.{column_later, accepted_before}
use Rattle.cholesky.proofs.Outcomes.{Like, columns_like}
use Rattle.cholesky.proofs.Counting.{used_join, used_early, used_like, used_later}
use Rattle.cholesky.proofs.Rows.{Off, updates_in, updates_above, below_in, below_above, columns_off, judged_passed}

-- one column more
column_done : (ρ : Rule) (k j : ℕ) (o : Outcome) → is_done o.answer ≡ true → factor_column ρ k j o ≡ worked ρ k j o.cells
unfolding factor_column
column_done ρ k j o done = rw done

module _ (ρ : Rule) (m n : ℕ) (A M : Matrix) (le : m ≤ n) where
  -- the one call and the batch, after j columns
  abbrev one : ℕ → Outcome
  one j = for 0 j (factor_column ρ 0) (started A)

  abbrev two : ℕ → Outcome
  two j = for 0 j (factor_column ρ m) (started M)

  -- up to column m the batch's rows go with the one call's, and the rows before stay
  record Along (j : ℕ) : Type 0 where
    answer : (two j).answer ≡ Done
    new : (i c : ℕ) → c ≤ i → m ≤ i → i < n → (two j).cells i c ≡ (one j).cells i c
    old : (i c : ℕ) → i < m → (two j).cells i c ≡ M i c

  module _
      (done : (one m).answer ≡ Done)
      (before : (i c : ℕ) → c ≤ i → i < m → M i c ≡ (one m).cells i c)
      (given : (i c : ℕ) → c ≤ i → m ≤ i → i < n → M i c ≡ A i c) where
    one_done : (j : ℕ) → j ≤ m → is_done (one j).answer ≡ true
    unfolding factor_columns
    one_done j upto = accepted_before ρ 0 A j m upto (ap is_done done)

    along_none : Along 0
    along_none = record {
      answer = ap (λ (o : Outcome). o.answer) (for_none 0 (factor_column ρ m) (started M));
      new = λ i c low from lt. ap (λ (o : Outcome). o.cells i c) (for_none 0 (factor_column ρ m) (started M)) ∙ given i c low from lt ∙ sym (ap (λ (o : Outcome). o.cells i c) (for_none 0 (factor_column ρ 0) (started A)));
      old = λ i c lt. ap (λ (o : Outcome). o.cells i c) (for_none 0 (factor_column ρ m) (started M));
    }

    -- an entry that the columns from j on leave alone
    one_later : (i c j : ℕ) → j ≤ m → ((k : ℕ) → j ≤ k → Off i k c) → (one m).cells i c ≡ (one j).cells i c
    one_later i c j upto off =
        sym (ap (λ (o : Outcome). o.cells i c) (for_join 0 j m (factor_column ρ 0) (started A) (omega arith) upto)) ∙ columns_off ρ i c 0 j m (one j) (λ k from lt. off k from)

    module _ (j : ℕ) (lt : j < m) (so : Along j) where
      abbrev U : Matrix
      U = (one j).cells

      abbrev W : Matrix
      W = (two j).cells

      abbrev rooted : Matrix
      rooted = entry (updates j j U) j j (ρ.root (updates j j U j j))

      one_next : one (j + 1) ≡ judged_column ρ j (updates j j U)
      unfolding worked
      one_next = for_more 0 j (factor_column ρ 0) (started A) (omega arith) ∙ column_done ρ 0 j (one j) (one_done j (omega arith)) ∙ rw (le-ltb j 0 (omega arith))

      two_next : two (j + 1) ≡ continued m j (updates m j W)
      unfolding worked
      two_next = for_more 0 j (factor_column ρ m) (started M) (omega arith) ∙ column_done ρ m j (two j) (ap is_done so.answer) ∙ rw (lt-ltb j m lt)

      one_cells : (one (j + 1)).cells ≡ below (j + 1) j rooted
      one_cells =
          ap (λ (o : Outcome). o.cells) one_next
          ∙ judged_passed ρ j (updates j j U) (ap (λ (o : Outcome). is_done o.answer) (sym one_next) ∙ one_done (j + 1) (omega arith))

      two_cells : (two (j + 1)).cells ≡ below m j (updates m j W)
      unfolding continued
      two_cells = ap (λ (o : Outcome). o.cells) two_next

      -- the stored diagonal is the root
      diagonal : M j j ≡ rooted j j
      diagonal =
          before j j (omega arith) lt
          ∙ one_later j j (j + 1) (omega arith) (λ k from. inl (omega arith))
          ∙ ap (λ (N : Matrix). N j j) one_cells
          ∙ below_above (j + 1) j rooted j j (omega arith)

      row : (c : ℕ) → c < j → W j c ≡ U j c
      row c left = so.old j c lt ∙ before j c (omega arith) lt ∙ one_later j c j (omega arith) (λ k from. inr (λ e. omega arith))

      cell : (i : ℕ) → m ≤ i → i < n → (two (j + 1)).cells i j ≡ (one (j + 1)).cells i j
      cell i from under =
          let apart : i ≡ j → ⊥ = λ e. omega arith in
          ap (λ (N : Matrix). N i j) two_cells
          ∙ below_in m j (updates m j W) i from
          ∙ ap₂ ◌⊘◌
          (updates_in m j W i from
          ∙ updated_agree W U j j i (so.new i j (omega arith) from under) (λ c h. so.new i c (omega arith) from under) row
          ∙ sym (updates_in j j U i (omega arith))
          ∙ sym (entry_row (updates j j U) j j (ρ.root (updates j j U j j)) i j apart))
          (updates_above m j W j j lt ∙ so.old j j lt ∙ diagonal)
          ∙ sym (below_in (j + 1) j rooted i (omega arith))
          ∙ sym (ap (λ (N : Matrix). N i j) one_cells)

      -- a column other than j
      other : (k : ℕ) (N : Matrix) (i c : ℕ) → (c ≡ j → ⊥) → (for 0 (j + 1) (factor_column ρ k) (started N)).cells i c ≡ (for 0 j (factor_column ρ k) (started N)).cells i c
      other k N i c apart =
          sym (ap (λ (o : Outcome). o.cells i c) (for_join 0 j (j + 1) (factor_column ρ k) (started N) (omega arith) (omega arith)))
          ∙ columns_off ρ i c k j (j + 1) (for 0 j (factor_column ρ k) (started N)) (λ h from upto. inr (λ e. apart (let same : h ≡ j = omega arith in e ∙ same)))

      along_more : Along (j + 1)
      unfolding continued
      along_more = record {
        answer = ap (λ (o : Outcome). o.answer) two_next;
        new = λ i c low from under. pick i c low from under (where? 0 j i c);
        old = λ i c h. ap (λ (N : Matrix). N i c) two_cells ∙ below_above m j (updates m j W) i c h ∙ updates_above m j W i c h ∙ so.old i c h;
      }
        where
          pick : (i c : ℕ) → c ≤ i → m ≤ i → i < n → Where 0 j i c → (two (j + 1)).cells i c ≡ (one (j + 1)).cells i c
          pick i c low from under (within a this) = subst (λ (c : ℕ). (two (j + 1)).cells i c ≡ (one (j + 1)).cells i c) (sym this) (cell i from under)
          pick i c low from under (above h) = absurd (omega arith)
          pick i c low from under (beside apart) = other m M i c apart ∙ so.new i c low from under ∙ sym (other 0 A i c apart)

    along : (j : ℕ) → j ≤ m → Along j
    along zero upto = along_none
    along (suc j) upto = subst Along (add-one j) (along_more j (omega arith) (along j (omega arith)))

    -- where the batch's own rows begin
    begin : Like n (two m) (one m)
    begin = record {
      answer = (along m (omega arith)).answer ∙ sym done;
      cells = record { at = λ i c low under. at i c low under (ltb i m) refl };
    }
      where
        at : (i c : ℕ) → c ≤ i → i < n → (b : Bool) → ltb i m ≡ b → (two m).cells i c ≡ (one m).cells i c
        at i c low under true e = (along m (omega arith)).old i c (ltb-true i m e) ∙ before i c low (ltb-true i m e)
        at i c low under false e = (along m (omega arith)).new i c low (ltb-false i m e) under

    pub batch_like : Like n (factor_columns ρ m n M) (factor_columns ρ 0 n A)
    unfolding factor_columns
    batch_like =
        subst (λ (o : Outcome). Like n o (for 0 n (factor_column ρ 0) (started A))) (for_join 0 m n (factor_column ρ m) (started M) (omega arith) le)
        (subst (λ (o : Outcome). Like n o (for 0 n (factor_column ρ 0) (started A))) (sym (for_same m n (factor_column ρ m) (factor_column ρ 0) (two m) (λ j o from upto. column_later ρ m j o from)))
        (subst (Like n (for m n (factor_column ρ 0) (two m))) (for_join 0 m n (factor_column ρ 0) (started A) (omega arith) le)
        (columns_like ρ 0 m n (omega arith) begin)))

    -- the batch's count, after that of the rows before
    pub batch_used : used_by ρ 0 n A ≡ used_by ρ 0 m A + used_by ρ m n M
    batch_used =
        let whole = used_join ρ 0 0 m n (started A) (omega arith) le in
        let own = used_join ρ m 0 m n (started M) (omega arith) le in
        let none = used_early ρ m 0 m (started M) (omega arith) in
        let same : used_from ρ m m n (two m) ≡ used_from ρ 0 m n (one m) = used_later ρ m m n (two m) (omega arith) ∙ used_like ρ 0 m n (omega arith) begin in
        omega arith
