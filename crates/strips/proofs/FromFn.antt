-- The elements of an array that a closure gave one by one, where no call changes the closure. Assumes nothing.
use mathlib.Core.List.{List}
use mathlib.Core.Path.{◌≡◌, subst}
use Prim.Native.Nat.{ℕ, zero, suc, ◌+◌, ◌≤◌, ◌<◌}
use native.Mathlib.Omega.{arith}
use native.Mathlib.Nat.{eq-or-lt_of_le}
use mathlib.Core.Logic.{◌⊎◌, inl, inr}
use lib.ListN.{get_or}
use denote.Param.Members.{Called, Mut}
use Rattle.std.specs.Array.{IsFromFnResultFrom, IsFromFnResult}

module _ {F B : Type 0} (P : ℕ → B → Type 0) (g : Mut F (ℕ × Unit {0}) B) where
  from : (n : ℕ) (f : F) (ys : List B) (i : ℕ) → ((i : ℕ) (y : B) (q : F) → Called g f (i, tt) y q → P i y × (q ≡ f)) → IsFromFnResultFrom g f ys i n → (c : ℕ) (d : B) → i ≤ c → c < i + n → P c (get_or ys c d)
  from zero f ys i step each c d low upto = absurd (omega arith)
  from (suc n) f ys i step (q, y, here, called, rest) c d low upto =
      pick (eq-or-lt_of_le {n = i} {m = c} low) (λ later. from n f ys (i + 1) step (subst (λ (q : F). IsFromFnResultFrom g q ys (i + 1) n) (step i y q called).1 rest) c d (omega arith) (omega arith))
    where
      pick : (i ≡ c) ⊎ (i < c) → (i < c → P c (get_or ys c d)) → P c (get_or ys c d)
      pick (inl this) after = subst (λ (c : ℕ). P c (get_or ys c d)) this (rw (here.1 d) (step i y q called).0)
      pick (inr later) after = after later

  pub from_fn_each : {f : F} {ys : List B} {n : ℕ} → IsFromFnResult g f ys n → ((i : ℕ) (y : B) (q : F) → Called g f (i, tt) y q → P i y × (q ≡ f)) → (c : ℕ) (d : B) → c < n → P c (get_or ys c d)
  from_fn_each {f} {ys} {n} made step c d below = from n f ys 0 step made.each c d (omega arith) (omega arith)
