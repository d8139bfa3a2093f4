-- What a column leaves alone, what it answers, and what a passed column leaves. Assumes nothing.
use mathlib.Core.Path.{◌≡◌, refl, sym, ◌∙◌}
use mathlib.Core.Bool.{true, true≢false}
use mathlib.Core.Logic.{◌⊎◌, inl, inr}
use Prim.Native.Nat.{ℕ, ◌+◌, ◌≤◌, ◌<◌}
use native.Mathlib.Omega.{arith}
use lib.Dec.{ltb}
use lib.Ieee.{Float}
use borrow.Author.Tests.{ltb-true}
use Rattle.answer.specs.Answer.{is_done}
use Rattle.matrix.specs.Matrix.{Matrix, entry}
use Rattle.matrix.specs.Loop.{for}
use Rattle.matrix.specs.Rounded.{◌⊘◌}
use Rattle.answer.proofs.Done.{done_is}
use Rattle.answer.proofs.Tests.{either}
use Rattle.matrix.proofs.Loops.{for_still}
use Rattle.matrix.proofs.Stores.{entry_skip}
use Rattle.cholesky.specs.Column.{updated, divided, part}
use Rattle.cholesky.specs.Run.{Rule, Outcome, updates, below, continued, judged_column, worked, factor_column}
use Rattle.cholesky.proofs.Parts.{part_in, part_above, part_beside}

-- ---- entries of an updated and of a divided column

module _ (r j : ℕ) (M : Matrix) (i : ℕ) where
  pub updates_in : r ≤ i → updates r j M i j ≡ updated M j j i
  unfolding updates
  updates_in from = part_in r j (updated M j j) M i from

  pub updates_above : (c : ℕ) → i < r → updates r j M i c ≡ M i c
  unfolding updates
  updates_above c h = part_above r j (updated M j j) M i c h

  pub below_in : r ≤ i → below r j M i j ≡ M i j ⊘ M j j
  unfolding below divided
  below_in from = part_in r j (divided M j (M j j)) M i from

  pub below_above : (c : ℕ) → i < r → below r j M i c ≡ M i c
  unfolding below
  below_above c h = part_above r j (divided M j (M j j)) M i c h

-- ---- what is left alone

-- entry (i, c) is above row j, or in another column
abbrev pub Off : ℕ → ℕ → ℕ → Type 0
Off i j c = (i < j) ⊎ (c ≡ j → ⊥)

part_off : (r j : ℕ) (v : ℕ → Float) (M : Matrix) (i c : ℕ) → j ≤ r → Off i j c → part r j v M i c ≡ M i c
part_off r j v M i c le (inl h) = part_above r j v M i c (omega arith)
part_off r j v M i c le (inr h) = part_beside r j v M i c h

updates_off : (r j : ℕ) (M : Matrix) (i c : ℕ) → j ≤ r → Off i j c → updates r j M i c ≡ M i c
unfolding updates
updates_off r j M i c le off = part_off r j (updated M j j) M i c le off

below_off : (r j : ℕ) (M : Matrix) (i c : ℕ) → j ≤ r → Off i j c → below r j M i c ≡ M i c
unfolding below
below_off r j M i c le off = part_off r j (divided M j (M j j)) M i c le off

module _ (ρ : Rule) (i c : ℕ) where
  judged_off : (j : ℕ) (U : Matrix) → Off i j c → (judged_column ρ j U).cells i c ≡ U i c
  unfolding judged_column
  judged_off j U off =
      either (λ (o : Outcome). o.cells i c ≡ U i c) (is_done (ρ.verdict (U j j) j))
      (λ e. below_off (j + 1) j (entry U j j (ρ.root (U j j))) i c (omega arith) off ∙ entry_skip U j j (ρ.root (U j j)) i c (apart off)) (λ e. refl)
    where
      apart : Off i j c → i ≡ j → c ≡ j → ⊥
      apart (inl h) e f = omega arith
      apart (inr h) e f = h f

  pub worked_off : (m j : ℕ) (M : Matrix) → Off i j c → (worked ρ m j M).cells i c ≡ M i c
  unfolding worked continued
  worked_off m j M off =
      either (λ (o : Outcome). o.cells i c ≡ M i c) (ltb j m)
      (λ e.
      let lt : j < m = ltb-true j m e in
      below_off m j (updates m j M) i c (omega arith) off ∙ updates_off m j M i c (omega arith) off)
      (λ e. judged_off j (updates j j M) off ∙ updates_off j j M i c (omega arith) off)

  -- columns lo to hi
  pub columns_off : (m lo hi : ℕ) (o : Outcome) → ((j : ℕ) → lo ≤ j → j < hi → Off i j c) → (for lo hi (factor_column ρ m) o).cells i c ≡ o.cells i c
  unfolding factor_column
  columns_off m lo hi o off =
      for_still (λ (p : Outcome). p.cells i c) lo hi (factor_column ρ m) o
      (λ j p from upto. either (λ (q : Outcome). q.cells i c ≡ p.cells i c) (is_done p.answer) (λ e. worked_off m j p.cells (off j from upto)) (λ e. refl))

-- the answer of a judged column is the rule's
pub judged_answer : (ρ : Rule) (j : ℕ) (U : Matrix) → (judged_column ρ j U).answer ≡ ρ.verdict (U j j) j
unfolding judged_column
judged_answer ρ j U =
    either (λ (o : Outcome). o.answer ≡ ρ.verdict (U j j) j) (is_done (ρ.verdict (U j j) j)) (λ passed. sym (done_is (ρ.verdict (U j j) j) passed)) (λ failed. refl)

-- a column that passed has its root, and the rows below are divided by it
pub judged_passed : (ρ : Rule) (j : ℕ) (U : Matrix) → is_done (judged_column ρ j U).answer ≡ true → (judged_column ρ j U).cells ≡ below (j + 1) j (entry U j j (ρ.root (U j j)))
unfolding judged_column
judged_passed ρ j U =
    either (λ (o : Outcome). is_done o.answer ≡ true → o.cells ≡ below (j + 1) j (entry U j j (ρ.root (U j j)))) (is_done (ρ.verdict (U j j) j))
    (λ e passes. refl) (λ e passes. absurd (true≢false (sym passes ∙ e)))
