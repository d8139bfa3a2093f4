-- The root is the nearest f64: it lies between the two midpoints beside it.
use mathlib.Core.Path.{◌≡◌, refl, sym, ap, ◌∙◌, subst}
use mathlib.Core.Logic.{◌⊎◌, inl, inr}
use Prim.Native.Nat.{ℕ, zero, suc, ◌+◌, ◌-◌, ◌*◌, ◌/◌, ◌%◌, ◌^◌, ◌≤◌, ◌<◌}
use native.Mathlib.Nat.{zero-lt-suc, eq-or-lt_of_le, mul_assoc, mul_left_comm, mul-pos, mul-le-mul_right}
use native.Mathlib.Omega.{arith}
use mathlib.Core.Bool.{Bool, true, false, not}
use lib.Dec.{T, lt→ltb}
use lib.Pow.{pow-add, pow_pos, shl_lt}
use lib.Count.{count_leading_zeros}
use lib.Ieee.{Float, nan, inf, fin, binary64, fits, is_nan, of_bits, to_bits}
use lib.Ieee.Bits.{of_bits-fits, of_bits-to_bits, to_bits-of_bits, nan_bits_is}
use lib.Ieee.Positive.{positive, positive_of_value}
use Rattle.leaf.specs.Root.{units_of, root_digits, root_of}
use Rattle.leaf.specs.Nearest.{Nearest, IsRoot, square_of}
use Rattle.leaf.specs.inner.Cut.{CutRoot}
use Rattle.leaf.specs.inner.Scaled.{Normal, Subnormal, Scaled}
use Rattle.leaf.proofs.Nan.{no_nan_bits}
use Rattle.leaf.proofs.Cut.{digits_cut}
use Rattle.leaf.proofs.Values.{counts}
use Rattle.leaf.proofs.Rounded.{Long, long, even_least, even_most, rounded_cut}
use Rattle.leaf.proofs.Patterns.{positive_bits}
use Rattle.leaf.proofs.Fields.{RootUnits, root_rounded, normal_scaled, normal_root, shifted, subnormal_scaled, subnormal_root}
use Rattle.leaf.proofs.Neighbours.{less_or_not, size_at, size_here, size_after, size_before, size_before_power}
use Rattle.leaf.proofs.Between.{below_after, above_before, above_half}

-- 2 ^ (at / 2), the unit of the result's last digit
module _ (m at : ℕ) (z : Scaled m at) where
  -- four times the square of the root, in those units
  area : 4 * (m * 2 ^ (at + 52)) ≡ m * 2 ^ (at % 2) * 2 ^ 54 * (2 ^ (at / 2) * 2 ^ (at / 2))
  area =
      mul_left_comm 4 m (2 ^ (at + 52))
      ∙ ap (λ (x : ℕ). m * x) (sym (pow-add 2 2 (at + 52)) ∙ ap (λ (x : ℕ). 2 ^ x) parts ∙ pow-add 2 (at % 2) (54 + (at / 2 + at / 2)))
      ∙ sym (mul_assoc m (2 ^ (at % 2)) (2 ^ (54 + (at / 2 + at / 2))))
      ∙ ap (λ (x : ℕ). m * 2 ^ (at % 2) * x) (pow-add 2 54 (at / 2 + at / 2) ∙ ap (λ (x : ℕ). 2 ^ 54 * x) (pow-add 2 (at / 2) (at / 2)))
      ∙ sym (mul_assoc (m * 2 ^ (at % 2)) (2 ^ 54) (2 ^ (at / 2) * 2 ^ (at / 2)))
    where
      parts : 2 + (at + 52) ≡ at % 2 + (54 + (at / 2 + at / 2))
      parts = omega arith

  module _ (s : ℕ) (c : CutRoot (m * 2 ^ (at % 2) * 2 ^ 54) s) where
    size : Long s
    size = long _ s (mul-le-mul_right (2 ^ 54) (even_least m at z)) (shl_lt 54 54 (even_most m at z)) c

    place : at / 2 * 2 ^ 52 + (s + 1) / 2 + 1 < 0x7ff0_0000_0000_0000
    place = omega (arith, size.most, z.highest)

    least : 2 ^ 52 ≤ (s + 1) / 2
    least = omega (arith, size.least)

    most : (s + 1) / 2 ≤ 2 ^ 53
    most = omega (arith, size.most)

    here : size_at (at / 2 * 2 ^ 52 + (s + 1) / 2) ≡ (s + 1) / 2 * 2 ^ (at / 2)
    here = size_here (at / 2) ((s + 1) / 2) place least most

    low : square_of (size_at (at / 2 * 2 ^ 52 + (s + 1) / 2 - 1) + size_at (at / 2 * 2 ^ 52 + (s + 1) / 2)) < m * 2 ^ (at % 2) * 2 ^ 54 * (2 ^ (at / 2) * 2 ^ (at / 2))
    low = go (eq-or-lt_of_le least)
      where
        step : 2 ^ 52 < (s + 1) / 2 → (s + 1) / 2 ≡ (s + 1) / 2 - 1 + 1
        step g = omega arith

        twice : 2 ^ 52 ≡ (s + 1) / 2 → 2 * ((s + 1) / 2) ≤ s
        twice e = omega (arith, size.least)

        up : 0 < at / 2
        up = omega (arith, z.lowest)

        go : (2 ^ 52 ≡ (s + 1) / 2) ⊎ (2 ^ 52 < (s + 1) / 2)
            → square_of (size_at (at / 2 * 2 ^ 52 + (s + 1) / 2 - 1) + size_at (at / 2 * 2 ^ 52 + (s + 1) / 2)) < m * 2 ^ (at % 2) * 2 ^ 54 * (2 ^ (at / 2) * 2 ^ (at / 2))
        go (inl e) = above_half _ s ((s + 1) / 2) (2 ^ (at / 2)) _ _ (pow_pos (at / 2)) c (twice e) here (size_before_power (at / 2) ((s + 1) / 2) place least most (sym e) up)
        go (inr g) =
            above_before (m * 2 ^ (at % 2)) s ((s + 1) / 2 - 1) (2 ^ (at / 2)) _ _ (pow_pos (at / 2)) c (step g) (here ∙ ap (λ (q : ℕ). q * 2 ^ (at / 2)) (step g))
            (size_before (at / 2) ((s + 1) / 2) place least most g)

    high : m * 2 ^ (at % 2) * 2 ^ 54 * (2 ^ (at / 2) * 2 ^ (at / 2)) < square_of (size_at (at / 2 * 2 ^ 52 + (s + 1) / 2) + size_at (at / 2 * 2 ^ 52 + (s + 1) / 2 + 1))
    high = below_after _ s ((s + 1) / 2) (2 ^ (at / 2)) _ _ (pow_pos (at / 2)) c refl here (size_after (at / 2) ((s + 1) / 2) place least most)

    nearest_cut : (x : Float) → RootUnits x (m * 2 ^ (at + 52)) → Nearest x (of_bits binary64 (at / 2 * 2 ^ 52 + (s + 1) / 2))
    nearest_cut x u =
        let b = at / 2 * 2 ^ 52 + (s + 1) / 2 in
        let r = of_bits binary64 b in
        let number : T (not (is_nan r)) = subst (λ (t : Bool). T (not t)) (nan_bits_is binary64 b) (no_nan_bits b (omega (arith, place))) in
        let bits : to_bits binary64 r ≡ b = to_bits-of_bits binary64 b (omega (arith, place)) number in
        let four : 4 * (units_of x * 2 ^ 1074) ≡ m * 2 ^ (at % 2) * 2 ^ 54 * (2 ^ (at / 2) * 2 ^ (at / 2)) = ap (λ (n : ℕ). 4 * n) u.units ∙ area in
        record {
          fits = of_bits-fits binary64 b;
          positive = positive_of_value r ((s + 1) / 2 * 2 ^ (at / 2)) (2 ^ 1074) (counts (at / 2) ((s + 1) / 2) (omega (arith, place)) least most) (mul-pos some (pow_pos (at / 2)));
          lower = subst (λ (n : ℕ). square_of (size_at (n - 1) + size_at b) < 4 * (units_of x * 2 ^ 1074)) (sym bits) (subst (λ (n : ℕ). square_of (size_at (b - 1) + size_at b) < n) (sym four) low);
          upper = subst (λ (n : ℕ). 4 * (units_of x * 2 ^ 1074) < square_of (size_at b + size_at (n + 1))) (sym bits) (subst (λ (n : ℕ). n < square_of (size_at b + size_at (b + 1))) (sym four) high);
        }
      where
        some : 0 < (s + 1) / 2
        some = omega (arith, least)

  nearest_scaled : (x : Float) → RootUnits x (m * 2 ^ (at + 52)) → Nearest x (root_of x)
  nearest_scaled x u =
      let w = m * 2 ^ (at % 2) * 2 ^ 54 in
      let c : CutRoot w (root_digits 54 w) = digits_cut 54 w (shl_lt 54 54 (even_most m at z)) in
      subst (λ (r : Float). Nearest x r) (sym (rounded_cut m at z (root_digits 54 w) c) ∙ root_rounded u) (nearest_cut (root_digits 54 w) c x u)

nearest_bits : (b : ℕ) → 0 < b → b < 0x7ff0_0000_0000_0000 → Nearest (of_bits binary64 b) (root_of (of_bits binary64 b))
nearest_bits b p h = go (less_or_not b (2 ^ 52))
  where
    go : (b < 2 ^ 52) ⊎ (2 ^ 52 ≤ b) → Nearest (of_bits binary64 b) (root_of (of_bits binary64 b))
    go (inl l) =
        let n : Subnormal b = record { least = p; most = l } in
        let z = shifted b n in
        nearest_scaled (b * 2 ^ (count_leading_zeros 64 b - 11)) (1022 - (count_leading_zeros 64 b - 11)) (subnormal_scaled b n z) (of_bits binary64 b) (subnormal_root b n z)
    go (inr l) =
        let n : Normal b = record { least = l; most = h } in
        nearest_scaled (b % 2 ^ 52 + 2 ^ 52) (b / 2 ^ 52 + 1021) (normal_scaled b n) (of_bits binary64 b) (normal_root b n)

pub root_nearest : (x : Float) → T (fits binary64 x) → T (positive x) → Nearest x (root_of x)
root_nearest x f p =
    let b = positive_bits x f p in
    subst (λ (y : Float). Nearest y (root_of y)) (of_bits-to_bits binary64 x f) (nearest_bits (to_bits binary64 x) b.0 b.1)

-- what `root` gives is the root in this sense too
pub root_is_root : (x : Float) → T (fits binary64 x) → IsRoot x (root_of x)
unfolding IsRoot
root_is_root nan f = unfold root_of in refl
root_is_root (inf true) f = unfold root_of in refl
root_is_root (inf false) f = unfold root_of in refl
root_is_root (fin true zero e) f = unfold root_of in refl
root_is_root (fin false zero e) f = unfold root_of in refl
root_is_root (fin true (suc m) e) f = unfold root_of in refl
root_is_root (fin false (suc m) e) f = root_nearest (fin false (suc m) e) f above
  where
    above : T (positive (fin false (suc m) e))
    above = lt→ltb 0 (suc m) (zero-lt-suc m)
