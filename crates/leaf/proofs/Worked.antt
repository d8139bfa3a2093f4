-- The root worked out digit by digit. After i digits s is the root so far, `rest` what is left above its square, and `left` the digits of n still to come.
use mathlib.Core.Path.{◌≡◌, sym, ap, ◌∙◌}
use Prim.Native.Nat.{ℕ, ◌+◌, ◌-◌, ◌*◌, ◌/◌, ◌%◌, ◌^◌, ◌≤◌, ◌<◌}
use native.Mathlib.Nat.{mul_assoc, pow-suc}
use native.Mathlib.Numerals.{add-one}
use native.Mathlib.Omega.{arith}
use lib.Pow.{pow_mono}

pub record Worked (n i s rest left : ℕ) : Type 0 where
  pub turns : i ≤ 54
  pub short : s < 2 ^ i
  pub least : rest ≤ s * 2
  pub more : left < 2 ^ 54
  pub whole : n * 4 ^ i ≡ (s * s + rest) * 2 ^ 54 + left

module _ {n i s rest left : ℕ} (w : Worked n i s rest left) where
  quadruple : n * 4 ^ (i + 1) ≡ n * 4 ^ i * 4
  quadruple = ap (λ (x : ℕ). n * 4 ^ x) (add-one i) ∙ ap (λ (x : ℕ). n * x) (pow-suc 4 i) ∙ sym (mul_assoc n (4 ^ i) 4)

  power : 2 ^ (i + 1) ≡ 2 ^ i * 2
  power = ap (λ (x : ℕ). 2 ^ x) (add-one i) ∙ pow-suc 2 i

  pub worked_zero : i < 54 → rest * 4 + left / 2 ^ 52 ≤ s * 2 * 2 → Worked n (i + 1) (s * 2) (rest * 4 + left / 2 ^ 52) (left % 2 ^ 52 * 4)
  worked_zero t h = record {
    turns = omega arith;
    short = omega (arith, w.short, power);
    least = h;
    more = omega arith;
    whole = omega (arith, w.whole, quadruple);
  }

  pub worked_one : i < 54 → s * 2 * 2 < rest * 4 + left / 2 ^ 52 → Worked n (i + 1) (s * 2 + 1) (rest * 4 + left / 2 ^ 52 - s * 2 * 2 - 1) (left % 2 ^ 52 * 4)
  worked_one t h = record {
    turns = omega arith;
    short = omega (arith, w.short, power);
    least = omega (arith, w.least, w.more);
    more = omega arith;
    whole = omega (arith, h, w.whole, quadruple);
  }

  -- the numbers stay small
  pub worked_small : i < 54 → s < 2 ^ 53
  worked_small h = let p : 2 ^ i ≤ 2 ^ 53 = pow_mono {i = i} {j = 53} (omega arith) in omega (arith, w.short)
