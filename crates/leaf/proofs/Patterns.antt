-- What a pattern says of its float: the infinities, the zeros, what lies below zero and what above, and their roots.
use mathlib.Core.Path.{◌≡◌, refl, sym, ap, ◌∙◌, subst}
use Prim.Native.Nat.{ℕ, zero, suc, ◌+◌, ◌-◌, ◌*◌, ◌/◌, ◌%◌, ◌^◌, ◌≤◌, ◌<◌}
use native.Mathlib.Nat.{zero-mul, zero-div}
use native.Mathlib.Omega.{arith}
use mathlib.Core.Bool.{Bool, true, false, not}
use lib.IntN.{ℤ}
use lib.Dec.{T, nltb→le}
use lib.Ieee.{Float, nan, inf, fin, binary64, up, down, size, fits, is_nan, of_bits, to_bits}
use lib.Ieee.Bits.{nan_bits_above, nan_bits_is, of_bits-to_bits}
use lib.Ieee.Positive.{positive}
use Rattle.leaf.specs.Root.{root_of}
use Rattle.leaf.proofs.Sign.{unsigned_bits}

-- the pattern of what is no NaN, after its sign, is at most the infinity's
within : (x : Float) → T (fits binary64 x) → T (not (is_nan x)) → to_bits binary64 x % 2 ^ 63 ≤ 0x7ff0_0000_0000_0000
within x f n =
    nltb→le 0x7ff0_0000_0000_0000 (to_bits binary64 x % 2 ^ 63)
    (subst (λ (t : Bool). T (not t)) (sym (ap is_nan (of_bits-to_bits binary64 x f)) ∙ sym (nan_bits_is binary64 (to_bits binary64 x)) ∙ nan_bits_above binary64 (to_bits binary64 x)) n)

zero_bits : (e : ℤ) → to_bits binary64 (fin true 0 e) ≡ 2 ^ 63
unfolding to_bits size
zero_bits e = ap (λ (n : ℕ). 2 ^ 63 + (size n - 53) * 2 ^ 52 + n / 2 ^ (size n - 53)) none
  where
    none : 0 * up e * 2 ^ 1074 / down e ≡ 0
    none = ap (λ (n : ℕ). n * 2 ^ 1074 / down e) (zero-mul (up e)) ∙ zero-div (down e)

zero_not : T (positive (of_bits binary64 0)) → ⊥
unfolding of_bits
zero_not p = p

infinity_not : T (positive (of_bits binary64 0x7ff0_0000_0000_0000)) → ⊥
unfolding of_bits
infinity_not p = p

-- the pattern of a finite float above zero
pub positive_bits : (x : Float) → T (fits binary64 x) → T (positive x) → (0 < to_bits binary64 x) × (to_bits binary64 x < 0x7ff0_0000_0000_0000)
positive_bits nan f p = absurd p
positive_bits (inf s) f p = absurd p
positive_bits (fin true m e) f p = absurd p
positive_bits (fin false m e) f p =
    let b = to_bits binary64 (fin false m e) in
    let back : of_bits binary64 b ≡ fin false m e = of_bits-to_bits binary64 (fin false m e) f in
    inside b (unsigned_bits m e f) (within (fin false m e) f (unfold is_nan in tt))
    (λ (h : b ≡ 0). zero_not (subst (λ (x : Float). T (positive x)) (sym back ∙ ap (of_bits binary64) h) p))
    (λ (h : b ≡ 0x7ff0_0000_0000_0000). infinity_not (subst (λ (x : Float). T (positive x)) (sym back ∙ ap (of_bits binary64) h) p))
  where
    inside : (b : ℕ) → b < 2 ^ 63 → b % 2 ^ 63 ≤ 0x7ff0_0000_0000_0000 → (b ≡ 0 → ⊥) → (b ≡ 0x7ff0_0000_0000_0000 → ⊥) → (0 < b) × (b < 0x7ff0_0000_0000_0000)
    inside b l w y z = (omega arith, omega arith)

-- what lies above the infinity's pattern and is neither a NaN nor -0 has no root
pub root_negative : (x : Float) → T (fits binary64 x) → T (not (is_nan x)) → 0x7ff0_0000_0000_0000 ≤ to_bits binary64 x
    → (to_bits binary64 x ≡ 0x7ff0_0000_0000_0000 → ⊥) → (to_bits binary64 x ≡ 0x8000_0000_0000_0000 → ⊥) → root_of x ≡ nan
unfolding root_of
root_negative nan f n a p q = refl
root_negative (inf true) f n a p q = refl
root_negative (inf false) f n a p q = unfold to_bits in absurd (p refl)
root_negative (fin true zero e) f n a p q = absurd (q (zero_bits e))
root_negative (fin true (suc m) e) f n a p q = refl
root_negative (fin false m e) f n a p q = absurd (out _ a p (unsigned_bits m e f) (within (fin false m e) f n))
  where
    out : (b : ℕ) → 0x7ff0_0000_0000_0000 ≤ b → (b ≡ 0x7ff0_0000_0000_0000 → ⊥) → b < 2 ^ 63 → b % 2 ^ 63 ≤ 0x7ff0_0000_0000_0000 → ⊥
    out b h k l w = omega arith

pub root_nan : (x : Float) → x ≡ nan → x ≡ root_of x
unfolding root_of
root_nan x h = h ∙ ap root_of (sym h)

-- by its pattern
pub root_of_bits : (x : Float) (b : ℕ) → T (fits binary64 x) → to_bits binary64 x ≡ b → root_of (of_bits binary64 b) ≡ root_of x
root_of_bits x b f h = ap (λ (y : ℕ). root_of (of_bits binary64 y)) (sym h) ∙ ap root_of (of_bits-to_bits binary64 x f)

itself : (x : Float) (b : ℕ) → T (fits binary64 x) → to_bits binary64 x ≡ b → of_bits binary64 b ≡ root_of (of_bits binary64 b) → x ≡ root_of x
itself x b f h k = sym (of_bits-to_bits binary64 x f) ∙ ap (of_bits binary64) h ∙ k ∙ root_of_bits x b f h

pub root_zero : (x : Float) → T (fits binary64 x) → to_bits binary64 x ≡ 0 → x ≡ root_of x
root_zero x f h = itself x 0 f h (unfold root_of of_bits in refl)

pub root_minus_zero : (x : Float) → T (fits binary64 x) → to_bits binary64 x ≡ 0x8000_0000_0000_0000 → x ≡ root_of x
root_minus_zero x f h = itself x 0x8000_0000_0000_0000 f h (unfold root_of of_bits in refl)

pub root_infinity : (x : Float) → T (fits binary64 x) → to_bits binary64 x ≡ 0x7ff0_0000_0000_0000 → x ≡ root_of x
root_infinity x f h = itself x 0x7ff0_0000_0000_0000 f h (unfold root_of of_bits in refl)
