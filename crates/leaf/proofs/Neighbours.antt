-- The size of a pattern's float and of the ones beside it, in units.
use mathlib.Core.Path.{◌≡◌, refl, sym, ap, ◌∙◌, subst}
use mathlib.Core.Logic.{◌⊎◌, inl, inr}
use Prim.Native.Nat.{ℕ, zero, suc, ◌+◌, ◌-◌, ◌*◌, ◌/◌, ◌%◌, ◌^◌, ◌≤◌, ◌<◌}
use native.Mathlib.Nat.{le_of_eq, le_trans, eq-or-lt_of_le, add-zero, mul_assoc, mul-le-mul_right, mul-lt-mul_of_pos_right, pow-succ'}
use native.Mathlib.Omega.{arith}
use mathlib.Core.Bool.{Bool, true, false, not}
use lib.Dec.{T, ltb, ltb→lt, nltb→le}
use lib.Pow.{pow_pos}
use lib.Ieee.{binary64, of_bits}
use Rattle.leaf.specs.Root.{units_of}
use Rattle.leaf.proofs.Values.{counts_low, counts, counts_units}

pub less_or_not : (a b : ℕ) → (a < b) ⊎ (b ≤ a)
less_or_not a b = go (ltb a b) (ltb→lt a b) (nltb→le a b)
  where
    go : (t : Bool) → (T t → a < b) → (T (not t) → b ≤ a) → (a < b) ⊎ (b ≤ a)
    go true y n = inl (y tt)
    go false y n = inr (n tt)

-- the size of the float of a pattern
abbrev pub size_at : ℕ → ℕ
size_at b = units_of (of_bits binary64 b)

size_low : (b : ℕ) → b < 2 ^ 52 → size_at b ≡ b
size_low b h = counts_units (of_bits binary64 b) b (counts_low b h)

pub size_at_law : (k q b : ℕ) → k * 2 ^ 52 + q ≡ b → b < 0x7ff0_0000_0000_0000 → 2 ^ 52 ≤ q → q ≤ 2 ^ 53 → size_at b ≡ q * 2 ^ k
size_at_law k q b e h l m =
    ap size_at (sym e) ∙ counts_units (of_bits binary64 (k * 2 ^ 52 + q)) (q * 2 ^ k) (counts k q (omega arith) l m)

-- the next float is larger, and the one before smaller
size_next : (b : ℕ) → b + 1 < 0x7ff0_0000_0000_0000 → size_at b ≤ size_at (b + 1)
size_next b h = go (less_or_not b (2 ^ 52))
  where
    low : b < 2 ^ 52 → (b + 1 < 2 ^ 52) ⊎ (2 ^ 52 ≤ b + 1) → size_at b ≤ size_at (b + 1)
    low l (inl n) = let p : size_at b ≡ b = size_low b l in let q : size_at (b + 1) ≡ b + 1 = size_low (b + 1) n in omega arith
    low l (inr n) =
        let p : size_at b ≡ b = size_low b l in
        let q : size_at (b + 1) ≡ 2 ^ 52 * 2 ^ 0 = size_at_law 0 (2 ^ 52) (b + 1) (omega arith) h (omega arith) (omega arith) in
        omega arith

    go : (b < 2 ^ 52) ⊎ (2 ^ 52 ≤ b) → size_at b ≤ size_at (b + 1)
    go (inl l) = low l (less_or_not (b + 1) (2 ^ 52))
    go (inr l) =
        let k = b / 2 ^ 52 - 1 in
        let q = b % 2 ^ 52 + 2 ^ 52 in
        let here : size_at b ≡ q * 2 ^ k = size_at_law k q b (omega arith) (omega arith) (omega arith) (omega arith) in
        let next : size_at (b + 1) ≡ (q + 1) * 2 ^ k = size_at_law k (q + 1) (b + 1) (omega arith) h (omega arith) (omega arith) in
        subst (λ (x : ℕ). x ≤ size_at (b + 1)) (sym here) (subst (λ (x : ℕ). q * 2 ^ k ≤ x) (sym next) (mul-le-mul_right {m = q} {n = q + 1} (2 ^ k) (omega arith)))

pub size_mono : (d b : ℕ) → b + d < 0x7ff0_0000_0000_0000 → size_at b ≤ size_at (b + d)
size_mono zero b h = le_of_eq (ap size_at (sym (add-zero b)))
size_mono (suc d) b h =
    le_trans (size_mono d b (omega arith))
    (subst (λ (n : ℕ). size_at (b + d) ≤ size_at n) more (size_next (b + d) (omega arith)))
  where
    more : b + d + 1 ≡ b + suc d
    more = omega arith

module _ (k q : ℕ) (h : k * 2 ^ 52 + q + 1 < 0x7ff0_0000_0000_0000) (l : 2 ^ 52 ≤ q) (m : q ≤ 2 ^ 53) where
  pub size_here : size_at (k * 2 ^ 52 + q) ≡ q * 2 ^ k
  size_here = size_at_law k q (k * 2 ^ 52 + q) refl (omega arith) l m

  -- a whole step up at least
  pub size_after : (q + 1) * 2 ^ k ≤ size_at (k * 2 ^ 52 + q + 1)
  size_after = go (eq-or-lt_of_le m)
    where
      wide : (2 ^ 52 + 1) * 2 ^ suc k ≡ (2 ^ 53 + 2) * 2 ^ k
      wide = let p : 2 ^ suc k ≡ 2 * 2 ^ k = pow-succ' 2 k in omega arith

      go : (q ≡ 2 ^ 53) ⊎ (q < 2 ^ 53) → (q + 1) * 2 ^ k ≤ size_at (k * 2 ^ 52 + q + 1)
      go (inl e) =
          le_trans (mul-le-mul_right {m = q + 1} {n = 2 ^ 53 + 2} (2 ^ k) (omega arith))
          (le_of_eq (sym (size_at_law (suc k) (2 ^ 52 + 1) (k * 2 ^ 52 + q + 1) (omega arith) h (omega arith) (omega arith) ∙ wide)))
      go (inr g) = le_of_eq (sym (size_at_law k (q + 1) (k * 2 ^ 52 + q + 1) (omega arith) h (omega arith) (omega arith)))

  -- a whole step down
  pub size_before : 2 ^ 52 < q → size_at (k * 2 ^ 52 + q - 1) ≡ (q - 1) * 2 ^ k
  size_before g = size_at_law k (q - 1) (k * 2 ^ 52 + q - 1) (omega arith) (omega arith) (omega arith) (omega arith)

  -- half a step down, at a power of two
  pub size_before_power : q ≡ 2 ^ 52 → 0 < k → size_at (k * 2 ^ 52 + q - 1) < q * 2 ^ k
  size_before_power e g =
      subst (λ (n : ℕ). n < q * 2 ^ k) (sym (size_at_law (k - 1) (2 ^ 53 - 1) (k * 2 ^ 52 + q - 1) (omega arith) (omega arith) (omega arith) (omega arith)))
      (subst (λ (n : ℕ). (2 ^ 53 - 1) * 2 ^ (k - 1) < n) wide (mul-lt-mul_of_pos_right {m = 2 ^ 53 - 1} {n = 2 ^ 53} (omega arith) (pow_pos (k - 1))))
    where
      one : suc (k - 1) ≡ k
      one = omega arith

      wide : 2 ^ 53 * 2 ^ (k - 1) ≡ q * 2 ^ k
      wide = mul_assoc (2 ^ 52) 2 (2 ^ (k - 1)) ∙ ap (λ (x : ℕ). 2 ^ 52 * x) (sym (pow-succ' 2 (k - 1)) ∙ ap (λ (x : ℕ). 2 ^ x) one) ∙ ap (λ (x : ℕ). x * 2 ^ k) (sym e)
