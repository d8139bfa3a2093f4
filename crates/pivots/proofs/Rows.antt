-- Each row of an accepted record, whichever block it is in.
use mathlib.Core.List.{List}
use mathlib.Core.Logic.{◌⊎◌, inl, inr, ⊎_elim}
use mathlib.Core.Path.{◌≡◌, subst}
use Prim.Native.Nat.{ℕ, ◌+◌, ◌<◌, ◌≤◌}
use native.Mathlib.Nat.{eq-or-lt_of_le}
use native.Mathlib.Omega.{arith}
use Rattle.pivots.specs.Words.{index_at, size_at}
use Rattle.pivots.specs.Rule.{Accepted}
use Rattle.pivots.proofs.Boundaries.{Rest, end, one, two, boundary_none}

pub record Row (n : ℕ) (words : List ℕ) (row : ℕ) : Type 0 where
  pub size : (size_at words row ≡ 1) ⊎ (size_at words row ≡ 2)
  pub index : index_at words row < n

pub row_sound : {n : ℕ} {words : List ℕ} → Accepted n words → (row : ℕ) → row < n → Row n words row
row_sound {n} {words} a row below = from 0 (boundary_none a).after (omega arith)
  where
    from : (k : ℕ) → Rest n words k → k ≤ row → Row n words row
    from k (end e) h = absurd (omega arith)
    from k (one o r) h =
        ⊎_elim (λ (e : k ≡ row). subst (Row n words) e (record { size = inl o.size; index = o.high }))
        (λ (l : k < row). from (k + 1) r (omega arith))
        (eq-or-lt_of_le h)
    from k (two t r) h =
        ⊎_elim (λ (e : k ≡ row). subst (Row n words) e (record { size = inr t.size; index = t.high }))
        (λ (l : k < row).
        ⊎_elim
        (λ (e : k + 1 ≡ row). subst (Row n words) e (record { size = inr t.size₂; index = omega (arith, t.index₂, t.high) }))
        (λ (l₂ : k + 1 < row). from (k + 2) r (omega arith))
        (eq-or-lt_of_le (omega arith)))
        (eq-or-lt_of_le h)
