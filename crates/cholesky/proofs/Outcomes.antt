-- The run on two matrices that agree on the first n rows: its columns below n answer alike and leave matrices that agree there.
-- Assumes nothing.
use mathlib.Core.Path.{◌≡◌, refl, ap₂, subst}
use mathlib.Core.Bool.{Bool, true, false, cond}
use Prim.Native.Nat.{ℕ, ◌+◌, ◌≤◌, ◌<◌}
use native.Mathlib.Omega.{arith}
use lib.Dec.{ltb}
use lib.Ieee.{Float}
use borrow.Author.Tests.{ltb-true}
use Rattle.answer.specs.Answer.{Answer, Done, is_done}
use Rattle.matrix.specs.Matrix.{Matrix, entry}
use Rattle.matrix.specs.Loop.{for}
use Rattle.matrix.specs.Rounded.{◌⊘◌}
use Rattle.matrix.proofs.Loops.{for_related}
use Rattle.cholesky.specs.Column.{updated, divided}
use Rattle.cholesky.specs.Run.{Rule, Outcome, updates, below, continued, judged_column, worked, factor_column}
use Rattle.cholesky.proofs.Parts.{Agree, part_agree, updated_agree, entry_agree}

pub record Like (n : ℕ) (o p : Outcome) : Type 0 where
  pub answer : o.answer ≡ p.answer
  pub cells : Agree n o.cells p.cells

pub updates_agree : {n : ℕ} {M N : Matrix} (r j : ℕ) → j ≤ r → Agree n M N → Agree n (updates r j M) (updates r j N)
unfolding updates
updates_agree {n} {M} {N} r j le same =
    part_agree r j (updated M j j) (updated N j j) same
    (λ i from upto. updated_agree M N j j i (same.at i j (omega arith) upto) (λ c h. same.at i c (omega arith) upto) (λ c h. same.at j c (omega arith) (omega arith)))

pub below_agree : {n : ℕ} {M N : Matrix} (r j : ℕ) → j ≤ r → Agree n M N → Agree n (below r j M) (below r j N)
unfolding below divided
below_agree {n} {M} {N} r j le same =
    part_agree r j (divided M j (M j j)) (divided N j (N j j)) same
    (λ i from upto. ap₂ ◌⊘◌ (same.at i j (omega arith) upto) (same.at j j (omega arith) (omega arith)))

pub judged_like : {n : ℕ} {M N : Matrix} (ρ : Rule) (j : ℕ) → j < n → Agree n M N → Like n (judged_column ρ j M) (judged_column ρ j N)
unfolding judged_column
judged_like {n} {M} {N} ρ j lt same = subst (λ (d : Float). Like n (judged_column ρ j M) (by d)) here (pick (is_done (ρ.verdict (M j j) j)))
  where
    here : M j j ≡ N j j
    here = same.at j j (omega arith) lt

    by : Float → Outcome
    by d =
        cond (is_done (ρ.verdict d j))
        (record { answer = Done; cells = below (j + 1) j (entry N j j (ρ.root d)) })
        (record { answer = ρ.verdict d j; cells = N })

    pick : (b : Bool)
        → Like n
        (cond b (record { answer = Done; cells = below (j + 1) j (entry M j j (ρ.root (M j j))) }) (record { answer = ρ.verdict (M j j) j; cells = M }))
        (cond b (record { answer = Done; cells = below (j + 1) j (entry N j j (ρ.root (M j j))) }) (record { answer = ρ.verdict (M j j) j; cells = N }))
    pick true = record { answer = refl; cells = below_agree (j + 1) j (omega arith) (entry_agree j j same refl) }
    pick false = record { answer = refl; cells = same }

pub worked_like : {n : ℕ} {M N : Matrix} (ρ : Rule) (m j : ℕ) → j < n → Agree n M N → Like n (worked ρ m j M) (worked ρ m j N)
unfolding worked continued
worked_like {n} {M} {N} ρ m j lt same = pick (ltb j m) refl
  where
    pick : (b : Bool) → ltb j m ≡ b → Like n (cond b (continued m j (updates m j M)) (judged_column ρ j (updates j j M))) (cond b (continued m j (updates m j N)) (judged_column ρ j (updates j j N)))
    pick true e = let le : j < m = ltb-true j m e in record { answer = refl; cells = below_agree m j (omega arith) (updates_agree m j (omega arith) same) }
    pick false e = judged_like ρ j lt (updates_agree j j (omega arith) same)

pub column_like : {n : ℕ} {o p : Outcome} (ρ : Rule) (m j : ℕ) → j < n → Like n o p → Like n (factor_column ρ m j o) (factor_column ρ m j p)
unfolding factor_column
column_like {n} {o} {p} ρ m j lt same = subst (λ (r : Answer). Like n (factor_column ρ m j o) (cond (is_done r) (worked ρ m j p.cells) p)) same.answer (pick (is_done o.answer))
  where
    pick : (b : Bool) → Like n (cond b (worked ρ m j o.cells) o) (cond b (worked ρ m j p.cells) p)
    pick true = worked_like ρ m j lt same.cells
    pick false = same

-- columns lo to hi
pub columns_like : {n : ℕ} {o p : Outcome} (ρ : Rule) (m lo hi : ℕ) → hi ≤ n → Like n o p → Like n (for lo hi (factor_column ρ m) o) (for lo hi (factor_column ρ m) p)
columns_like {n} ρ m lo hi le same =
    for_related (Like n) lo hi (factor_column ρ m) (factor_column ρ m) same (λ j o p from upto so. column_like ρ m j (omega arith) so)
