-- What each entry of a factor is, by itself, for any rule of the diagonal. Assumes nothing.
--     After, Accepted, Updated   the matrix after j columns, whether none of them was refused, and the updated column j
--     diagonal_of, below_of      the diagonal of an accepted column, and a row below it
--     refused_diagonal           the diagonal of a refused column
--     stands, left_of_law, right_of  finished columns stay, and columns that are to come are as given
use mathlib.Core.Path.{◌≡◌, sym, ◌∙◌, ap, subst}
use mathlib.Core.Bool.{true, false}
use mathlib.Core.Logic.{inr}
use Prim.Native.Nat.{ℕ, ◌+◌, ◌≤◌, ◌<◌}
use native.Mathlib.Omega.{arith}
use lib.Ieee.{Float}
use Rattle.answer.specs.Answer.{is_done}
use Rattle.matrix.specs.Matrix.{Matrix, entry}
use Rattle.matrix.specs.Rounded.{◌⊘◌}
use Rattle.matrix.proofs.Stores.{entry_here, entry_row}
use Rattle.cholesky.specs.Column.{updated}
use Rattle.cholesky.specs.Run.{Rule, Outcome, updates, below, judged_column, started, factor_columns}
use Rattle.cholesky.proofs.Onward.{columns_on, accepted_before, judges}
use Rattle.cholesky.proofs.Rows.{updates_in, below_in, below_above, columns_off, judged_answer, judged_passed}

module _ (ρ : Rule) (A : Matrix) where
  -- the matrix after j columns
  abbrev pub After : ℕ → Matrix
  After j = (factor_columns ρ 0 j A).cells

  abbrev pub Accepted : ℕ → Type 0
  Accepted j = is_done (factor_columns ρ 0 j A).answer ≡ true

  -- the updated column j
  abbrev pub Updated : ℕ → ℕ → Float
  Updated j i = updated (After j) j j i

  -- the answer to a column is the rule's to its updated diagonal
  pub answer_of : (j : ℕ) → Accepted j → (factor_columns ρ 0 (j + 1) A).answer ≡ ρ.verdict (Updated j j) j
  answer_of j done =
      ap (λ (o : Outcome). o.answer) (judges ρ 0 A j (omega arith) done)
      ∙ judged_answer ρ j (updates j j (After j))
      ∙ ap (λ (x : Float). ρ.verdict x j) (updates_in j j (After j) j (omega arith))

  -- a refused column: its diagonal stays updated
  pub refused_diagonal : (j : ℕ) → Accepted j → is_done (ρ.verdict (Updated j j) j) ≡ false → After (j + 1) j j ≡ Updated j j
  unfolding judged_column
  refused_diagonal j done refused =
      let here = updates_in j j (After j) j (omega arith) in
      ap (λ (o : Outcome). o.cells j j) (judges ρ 0 A j (omega arith) done) ∙ rw (ap (λ (x : Float). is_done (ρ.verdict x j)) here ∙ refused) here

  -- an accepted column
  passed : (j : ℕ) → Accepted (j + 1) → After (j + 1) ≡ below (j + 1) j (entry (updates j j (After j)) j j (ρ.root (updates j j (After j) j j)))
  passed j done =
      let is = judges ρ 0 A j (omega arith) (accepted_before ρ 0 A j (j + 1) (omega arith) done) in
      ap (λ (o : Outcome). o.cells) is ∙ judged_passed ρ j (updates j j (After j)) (subst (λ (o : Outcome). is_done o.answer ≡ true) is done)

  pub diagonal_of : (j : ℕ) → Accepted (j + 1) → After (j + 1) j j ≡ ρ.root (Updated j j)
  diagonal_of j done =
      ap (λ (M : Matrix). M j j) (passed j done)
      ∙ below_above (j + 1) j (entry (updates j j (After j)) j j (ρ.root (updates j j (After j) j j))) j j (omega arith)
      ∙ entry_here (updates j j (After j)) j j (ρ.root (updates j j (After j) j j))
      ∙ ap ρ.root (updates_in j j (After j) j (omega arith))

  pub below_of : (j i : ℕ) → Accepted (j + 1) → j < i → After (j + 1) i j ≡ Updated j i ⊘ ρ.root (Updated j j)
  below_of j i done under =
      let U = updates j j (After j) in
      let E = entry U j j (ρ.root (U j j)) in
      ap (λ (M : Matrix). M i j) (passed j done)
      ∙ below_in (j + 1) j E i (omega arith)
      ∙ ap (λ (x : Float). x ⊘ E j j) (entry_row U j j (ρ.root (U j j)) i j (λ e. omega arith) ∙ updates_in j j (After j) i (omega arith))
      ∙ ap (◌⊘◌ (Updated j i)) (entry_here U j j (ρ.root (U j j)) ∙ ap ρ.root (updates_in j j (After j) j (omega arith)))

  -- the columns from j on leave what stands left of them, and the columns before c leave column c
  pub stands : (j k i c : ℕ) → c < j → j ≤ k → After k i c ≡ After j i c
  stands j k i c h upto = ap (λ (o : Outcome). o.cells i c) (sym (columns_on ρ 0 A j k upto)) ∙ columns_off ρ i c 0 j k (factor_columns ρ 0 j A) (λ t from to. inr (λ e. omega arith))

  pub left_of_law : (j i c : ℕ) → c < j → After (j + 1) i c ≡ After j i c
  left_of_law j i c h = stands j (j + 1) i c h (omega arith)

  pub right_of : (j i c : ℕ) → j ≤ c → After j i c ≡ A i c
  unfolding factor_columns
  right_of j i c h = columns_off ρ i c 0 0 j (started A) (λ k from to. inr (λ e. omega arith))
