-- Row after row gives what column after column gives, in the rows that are reached; by every rule whose refusals name their column. Assumes nothing.
use mathlib.Core.Path.{◌≡◌, sym, ◌∙◌, ap, ap₂, subst}
use mathlib.Core.Bool.{true, false}
use mathlib.Core.Logic.{◌⊎◌, inl, inr}
use Prim.Native.Nat.{ℕ, zero, suc, ◌+◌, ◌≤◌, ◌<◌}
use native.Mathlib.Numerals.{add-one}
use native.Mathlib.Omega.{arith}
use lib.Ieee.{Float}
use Rattle.answer.specs.Answer.{Answer, is_done}
use Rattle.answer.specs.Number.{place_of}
use Rattle.answer.proofs.Done.{done_is, done_or_refused}
use Rattle.answer.proofs.Tests.{either, eq_or_ne}
use Rattle.matrix.specs.Matrix.{Matrix}
use Rattle.matrix.specs.Loop.{for}
use Rattle.matrix.specs.Rounded.{◌⊘◌}
use Rattle.matrix.proofs.Loops.{for_none, for_more, for_still}
use Rattle.matrix.proofs.Stores.{entry_here, entry_row, entry_column}
use Rattle.cholesky.specs.Column.{updated}
use Rattle.cholesky.specs.Run.{Rule, Outcome, started, factor_column, factor_columns}
use Rattle.cholesky.proofs.Parts.{updated_agree}
use Rattle.cholesky.proofs.Onward.{refusal_answers, accepted_before}
use Rattle.cholesky.proofs.Entries.{After, Accepted, Updated, answer_of, diagonal_of, below_of, refused_diagonal, stands, left_of_law, right_of}
use Rattle.cholesky.proofs.Refusals.{NamesColumn}
use Rattle.teaching.specs.Promise.{reached}
use Rattle.teaching.specs.inner.Rows.{left_of, on_diagonal, last_row, row_after, by_rows}

-- ---- how many rows are reached

pub reached_all : (n : ℕ) (r : Answer) → is_done r ≡ true → reached n r ≡ n
unfolding reached
reached_all n r done = rw done

pub reached_refused : (n : ℕ) (r : Answer) → is_done r ≡ false → reached n r ≡ place_of r + 1
unfolding reached
reached_refused n r refused = rw refused

-- ---- one row

module _ (ρ : Rule) (A : Matrix) (r : ℕ) (M : Matrix)
    (before : Accepted ρ A r)
    (rows : (i c : ℕ) → c ≤ i → i < r → M i c ≡ After ρ A r i c)
    (given : (c : ℕ) → c ≤ r → M r c ≡ A r c) where
  -- row r, c of its entries found
  abbrev Found : ℕ → Matrix
  Found c = for 0 c (left_of r) M

  -- the rows before stay, and so do the entries that are not found yet
  found_row : (c i k : ℕ) → (i ≡ r → ⊥) → Found c i k ≡ M i k
  unfolding left_of
  found_row c i k apart = for_still (λ (N : Matrix). N i k) 0 c (left_of r) M (λ t N from upto. entry_row N r t (updated N t t r ⊘ N t t) i k apart)

  found_later : (c k : ℕ) → c ≤ k → Found c r k ≡ M r k
  unfolding left_of
  found_later c k late = for_still (λ (N : Matrix). N r k) 0 c (left_of r) M (λ t N from upto. entry_column N r t (updated N t t r ⊘ N t t) r k (λ e. omega arith))

  -- the first c entries are finished
  abbrev Finished : ℕ → Type 0
  Finished c = (k : ℕ) → k < c → Found c r k ≡ After ρ A r r k

  -- what is left of entry (r, c) is what is left of it in column c
  module _ (c : ℕ) (le : c ≤ r) (so : Finished c) where
    left_is : updated (Found c) c c r ≡ Updated ρ A c r
    left_is =
        updated_agree (Found c) (After ρ A c) c c r
        (found_later c c (omega arith) ∙ given c le ∙ sym (right_of ρ A c r c (omega arith)))
        (λ k lt. so k lt ∙ stands ρ A c r r k lt le)
        (λ k lt. pivot k lt (eq_or_ne c r))
      where
        pivot : (k : ℕ) → k < c → (c ≡ r) ⊎ (c ≡ r → ⊥) → Found c c k ≡ After ρ A c c k
        pivot k lt (inl e) = subst (λ (i : ℕ). Found c i k ≡ After ρ A c i k) (sym e) (so k lt ∙ stands ρ A c r r k lt le)
        pivot k lt (inr apart) = found_row c c k apart ∙ rows c k (omega arith) (omega arith) ∙ stands ρ A c r c k lt le

  finished_more : (c : ℕ) → c < r → Finished c → Finished (c + 1)
  unfolding left_of
  finished_more c lt so k upto = by (eq_or_ne k c)
    where
      next : Found (c + 1) ≡ left_of r c (Found c)
      next = for_more 0 c (left_of r) M (omega arith)

      accepted : Accepted ρ A (c + 1)
      accepted = accepted_before ρ 0 A (c + 1) r (omega arith) before

      diagonal : Found c c c ≡ ρ.root (Updated ρ A c c)
      diagonal =
          found_row c c c (λ e. omega arith)
          ∙ rows c c (omega arith) lt
          ∙ stands ρ A (c + 1) r c c (omega arith) (omega arith)
          ∙ diagonal_of ρ A c accepted

      here : Found (c + 1) r c ≡ After ρ A r r c
      here =
          ap (λ (N : Matrix). N r c) next
          ∙ entry_here (Found c) r c (updated (Found c) c c r ⊘ Found c c c)
          ∙ ap₂ ◌⊘◌ (left_is c (omega arith) so) diagonal
          ∙ sym (below_of ρ A c r accepted lt)
          ∙ sym (stands ρ A (c + 1) r r c (omega arith) (omega arith))

      by : (k ≡ c) ⊎ (k ≡ c → ⊥) → Found (c + 1) r k ≡ After ρ A r r k
      by (inl e) = subst (λ (k : ℕ). Found (c + 1) r k ≡ After ρ A r r k) (sym e) here
      by (inr apart) = ap (λ (N : Matrix). N r k) next ∙ entry_column (Found c) r c (updated (Found c) c c r ⊘ Found c c c) r k apart ∙ so k (omega arith)

  finished : (c : ℕ) → c ≤ r → Finished c
  finished zero upto = λ k lt. absurd (omega arith)
  finished (suc c) upto = subst Finished (add-one c) (finished_more c (omega arith) (finished c (omega arith)))

  -- the diagonal, once the row is found
  diagonal_left : updated (Found r) r r r ≡ Updated ρ A r r
  diagonal_left = left_is r (omega arith) (finished r (omega arith))

  -- ---- the row beside the main engine's columns up to r

  abbrev taught : Outcome
  taught = last_row ρ r M

  abbrev main : Outcome
  main = factor_columns ρ 0 (r + 1) A

  abbrev verdict : Answer
  verdict = ρ.verdict (updated (Found r) r r r) r

  verdict_is : main.answer ≡ verdict
  verdict_is = answer_of ρ A r before ∙ ap (λ (x : Float). ρ.verdict x r) (sym diagonal_left)

  pub row_answer : taught.answer ≡ main.answer
  unfolding last_row on_diagonal
  row_answer =
      either (λ (o : Outcome). o.answer ≡ main.answer) (is_done verdict)
      (λ passed. sym (verdict_is ∙ done_is verdict passed))
      (λ failed. sym verdict_is)

  -- what row r does not own
  pub row_apart : (i c : ℕ) → (i ≡ r → ⊥) → taught.cells i c ≡ M i c
  unfolding last_row on_diagonal
  row_apart i c apart =
      either (λ (o : Outcome). o.cells i c ≡ M i c) (is_done verdict)
      (λ passed. entry_row (Found r) r r (ρ.root (updated (Found r) r r r)) i c apart ∙ found_row r i c apart)
      (λ failed. entry_row (Found r) r r (updated (Found r) r r r) i c apart ∙ found_row r i c apart)

  pub row_left : (c : ℕ) → c < r → taught.cells r c ≡ main.cells r c
  unfolding last_row on_diagonal
  row_left c lt =
      either (λ (o : Outcome). o.cells r c ≡ main.cells r c) (is_done verdict)
      (λ passed. entry_column (Found r) r r (ρ.root (updated (Found r) r r r)) r c (λ e. omega arith) ∙ here)
      (λ failed. entry_column (Found r) r r (updated (Found r) r r r) r c (λ e. omega arith) ∙ here)
    where
      here : Found r r c ≡ main.cells r c
      here = finished r (omega arith) c lt ∙ sym (left_of_law ρ A r r c lt)

  pub row_diagonal : taught.cells r r ≡ main.cells r r
  unfolding last_row on_diagonal
  row_diagonal =
      either (λ (o : Outcome). o.cells r r ≡ main.cells r r) (is_done verdict)
      (λ passed.
      entry_here (Found r) r r (ρ.root (updated (Found r) r r r))
      ∙ ap ρ.root diagonal_left
      ∙ sym (diagonal_of ρ A r (ap is_done verdict_is ∙ passed)))
      (λ failed.
      entry_here (Found r) r r (updated (Found r) r r r)
      ∙ diagonal_left
      ∙ sym (refused_diagonal ρ A r before (ap (λ (x : Float). is_done (ρ.verdict x r)) (sym diagonal_left) ∙ failed)))

-- ---- all rows

-- the first n rows, row after row, beside the first n columns
pub record RowsAre (ρ : Rule) (A : Matrix) (n : ℕ) : Type 0 where
  pub answer : (by_rows ρ n A).answer ≡ (factor_columns ρ 0 n A).answer
  -- the rows that are reached
  pub upto : reached n (factor_columns ρ 0 n A).answer ≤ n
  pub rows : (i c : ℕ) → c ≤ i → i < reached n (factor_columns ρ 0 n A).answer → (by_rows ρ n A).cells i c ≡ (factor_columns ρ 0 n A).cells i c
  pub later : (i c : ℕ) → reached n (factor_columns ρ 0 n A).answer ≤ i → (by_rows ρ n A).cells i c ≡ A i c

module _ {ρ : Rule} (names : NamesColumn ρ) (A : Matrix) where
  abbrev one : ℕ → Outcome
  one n = factor_columns ρ 0 n A

  none : RowsAre ρ A 0
  unfolding by_rows factor_columns reached
  none = record {
    answer = ap (λ (o : Outcome). o.answer) (rows_none ∙ sym columns_none);
    upto = omega (arith, reached_none);
    rows = λ i c low lt. absurd (omega (arith, reached_none));
    later = λ i c from. ap (λ (o : Outcome). o.cells i c) rows_none;
  }
    where
      rows_none : by_rows ρ 0 A ≡ started A
      rows_none = for_none 0 (row_after ρ) (started A)

      columns_none : one 0 ≡ started A
      columns_none = for_none 0 (factor_column ρ 0) (started A)

      reached_none : reached 0 (one 0).answer ≡ 0
      reached_none = ap (λ (o : Outcome). reached 0 o.answer) columns_none

  module _ (n : ℕ) (so : RowsAre ρ A n) where
    next : by_rows ρ (n + 1) A ≡ row_after ρ n (by_rows ρ n A)
    unfolding by_rows
    next = for_more 0 n (row_after ρ) (started A) (omega arith)

    -- a row more
    accepted : is_done (one n).answer ≡ true → RowsAre ρ A (n + 1)
    unfolding row_after
    accepted done = record {
      answer = ap (λ (o : Outcome). o.answer) is ∙ row_answer ρ A n M done known given;
      upto = omega (arith, all);
      rows = λ i c low lt. row i c low (omega (arith, all)) (eq_or_ne i n);
      later = λ i c from.
          ap (λ (o : Outcome). o.cells i c) is
          ∙ row_apart ρ A n M done known given i c (λ e. omega (arith, all))
          ∙ so.later i c (omega (arith, all, reached_all n (one n).answer done));
    }
      where
        M : Matrix
        M = (by_rows ρ n A).cells

        is : by_rows ρ (n + 1) A ≡ last_row ρ n M
        is = next ∙ rw (ap is_done so.answer ∙ done)

        known : (i c : ℕ) → c ≤ i → i < n → M i c ≡ (one n).cells i c
        known i c low lt = so.rows i c low (omega (arith, reached_all n (one n).answer done))

        given : (c : ℕ) → c ≤ n → M n c ≡ A n c
        given c low = so.later n c (omega (arith, reached_all n (one n).answer done))

        -- accepted or refused, row n is reached
        all : reached (n + 1) (one (n + 1)).answer ≡ n + 1
        all =
            done_or_refused (one (n + 1)).answer
            (reached_all (n + 1) (one (n + 1)).answer)
            (λ failed.
            let judged = answer_of ρ A n done in
            reached_refused (n + 1) (one (n + 1)).answer failed
            ∙ ap (λ (k : ℕ). k + 1) (ap place_of judged ∙ names.place (Updated ρ A n n) n (ap is_done (sym judged) ∙ failed)))

        row : (i c : ℕ) → c ≤ i → i < n + 1 → (i ≡ n) ⊎ (i ≡ n → ⊥) → (by_rows ρ (n + 1) A).cells i c ≡ (one (n + 1)).cells i c
        row i c low lt (inr apart) =
            ap (λ (o : Outcome). o.cells i c) is
            ∙ row_apart ρ A n M done known given i c apart
            ∙ known i c low (omega arith)
            ∙ sym (left_of_law ρ A n i c (omega arith))
        row i c low lt (inl e) = subst (λ (i : ℕ). (by_rows ρ (n + 1) A).cells i c ≡ (one (n + 1)).cells i c) (sym e) (ap (λ (o : Outcome). o.cells n c) is ∙ own (eq_or_ne c n))
          where
            own : (c ≡ n) ⊎ (c ≡ n → ⊥) → (last_row ρ n M).cells n c ≡ (one (n + 1)).cells n c
            own (inl here) = subst (λ (c : ℕ). (last_row ρ n M).cells n c ≡ (one (n + 1)).cells n c) (sym here) (row_diagonal ρ A n M done known given)
            own (inr left) = row_left ρ A n M done known given c (omega arith)

    -- nothing more is done
    refused : is_done (one n).answer ≡ false → RowsAre ρ A (n + 1)
    unfolding row_after
    refused failed = record {
      answer = ap (λ (o : Outcome). o.answer) is ∙ so.answer ∙ ap (λ (o : Outcome). o.answer) stays;
      upto = omega (arith, same, so.upto);
      rows = λ i c low lt. ap (λ (o : Outcome). o.cells i c) is ∙ so.rows i c low (omega (arith, same)) ∙ ap (λ (o : Outcome). o.cells i c) stays;
      later = λ i c from. ap (λ (o : Outcome). o.cells i c) is ∙ so.later i c (omega (arith, same));
    }
      where
        is : by_rows ρ (n + 1) A ≡ by_rows ρ n A
        is = next ∙ rw (ap is_done so.answer ∙ failed)

        stays : one n ≡ one (n + 1)
        stays = refusal_answers ρ 0 A n (n + 1) (omega arith) failed

        same : reached (n + 1) (one (n + 1)).answer ≡ reached n (one n).answer
        same =
            ap (λ (o : Outcome). reached (n + 1) o.answer) (sym stays)
            ∙ reached_refused (n + 1) (one n).answer failed
            ∙ sym (reached_refused n (one n).answer failed)

  pub rows_are : (n : ℕ) → RowsAre ρ A n
  rows_are zero = none
  rows_are (suc n) = subst (RowsAre ρ A) (add-one n) (done_or_refused (one n).answer (accepted n (rows_are n)) (refused n (rows_are n)))
