-- A significand with its exponent made even.
use mathlib.Core.Path.{◌≡◌, sym, ap, ◌∙◌}
use Prim.Native.Nat.{ℕ, ◌*◌, ◌%◌, ◌^◌}
use native.Mathlib.Nat.{mul-one}
use native.Mathlib.Omega.{arith}

pub kept : (m at : ℕ) → at % 2 ≡ 0 → m ≡ m * 2 ^ (at % 2)
kept m at h = sym (ap (λ (x : ℕ). m * 2 ^ x) h ∙ mul-one m)

pub doubled : (m at : ℕ) → (at % 2 ≡ 0 → ⊥) → m * 2 ≡ m * 2 ^ (at % 2)
doubled m at h = sym (ap (λ (x : ℕ). m * 2 ^ x) (other h))
  where
    other : (at % 2 ≡ 0 → ⊥) → at % 2 ≡ 1
    other k = omega arith
