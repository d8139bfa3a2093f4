-- The root of a positive number by the two fields of its pattern.
use mathlib.Core.Path.{◌≡◌, refl, sym, ap, ◌∙◌, subst}
use Prim.Native.Nat.{ℕ, zero, suc, ◌+◌, ◌-◌, ◌*◌, ◌/◌, ◌%◌, ◌^◌, ◌≤◌, ◌<◌}
use native.Mathlib.Nat.{lt_of_not-le, mod-eq_of_lt, mul_assoc, mul-pos, mul-le-mul_right, mul-lt-mul_of_pos_right}
use native.Mathlib.Omega.{arith}
use mathlib.Core.Bool.{true, false}
use lib.Dec.{T}
use lib.Pow.{pow-add, pow_pos, pow_mono}
use lib.Count.{count_leading_zeros, leading_top}
use lib.Ieee.{Float, nan, inf, fin, binary64, of_bits}
use lib.Ieee.Positive.{positive, positive_of_value}
use Rattle.leaf.specs.Root.{units_of, rounded, root_of}
use Rattle.leaf.specs.inner.Scaled.{Normal, Subnormal, Scaled}
use Rattle.leaf.proofs.Values.{Counts, counts_low, counts, counts_units}

root_positive : (x : Float) → T (positive x) → root_of x ≡ rounded (units_of x * 2 ^ 1074)
unfolding root_of
root_positive nan p = absurd p
root_positive (inf s) p = absurd p
root_positive (fin true m e) p = absurd p
root_positive (fin false zero e) p = absurd p
root_positive (fin false (suc m) e) p = refl

-- x is above zero, and its root is that of v units
pub record RootUnits (x : Float) (v : ℕ) : Type 0 where
  pub above : T (positive x)
  pub units : units_of x * 2 ^ 1074 ≡ v

root_counts : (x : Float) (n v : ℕ) → 0 < n → Counts x n → n * 2 ^ 1074 ≡ v → RootUnits x v
root_counts x n v p h e = record { above = positive_of_value x n (2 ^ 1074) h p; units = ap (λ (y : ℕ). y * 2 ^ 1074) (counts_units x n h) ∙ e }

pub root_rounded : {x : Float} {v : ℕ} → RootUnits x v → rounded v ≡ root_of x
root_rounded {x} h = ap rounded (sym h.units) ∙ sym (root_positive x h.above)

-- a normal number, by its two fields
module _ (b : ℕ) (n : Normal b) where
  pub normal_scaled : Scaled (b % 2 ^ 52 + 2 ^ 52) (b / 2 ^ 52 + 1021)
  normal_scaled = record { least = omega arith; most = omega arith; lowest = omega arith; highest = omega (arith, n.most) }

  normal_counts : Counts (of_bits binary64 b) ((b % 2 ^ 52 + 2 ^ 52) * 2 ^ (b / 2 ^ 52 - 1))
  normal_counts =
      subst (λ (y : ℕ). Counts (of_bits binary64 y) ((b % 2 ^ 52 + 2 ^ 52) * 2 ^ (b / 2 ^ 52 - 1))) whole
      (counts (b / 2 ^ 52 - 1) (b % 2 ^ 52 + 2 ^ 52) (omega (arith, n.least, n.most)) (omega arith) (omega arith))
    where
      whole : (b / 2 ^ 52 - 1) * 2 ^ 52 + (b % 2 ^ 52 + 2 ^ 52) ≡ b
      whole = omega (arith, n.least)

  pub normal_root : RootUnits (of_bits binary64 b) ((b % 2 ^ 52 + 2 ^ 52) * 2 ^ (b / 2 ^ 52 + 1021 + 52))
  normal_root =
      root_counts (of_bits binary64 b) ((b % 2 ^ 52 + 2 ^ 52) * 2 ^ (b / 2 ^ 52 - 1)) _ (mul-pos above (pow_pos (b / 2 ^ 52 - 1))) normal_counts
      (mul_assoc (b % 2 ^ 52 + 2 ^ 52) (2 ^ (b / 2 ^ 52 - 1)) (2 ^ 1074)
      ∙ ap (λ (x : ℕ). (b % 2 ^ 52 + 2 ^ 52) * x) (sym (pow-add 2 (b / 2 ^ 52 - 1) 1074) ∙ ap (λ (x : ℕ). 2 ^ x) parts))
    where
      parts : b / 2 ^ 52 - 1 + 1074 ≡ b / 2 ^ 52 + 1021 + 52
      parts = omega (arith, n.least)

      above : 0 < b % 2 ^ 52 + 2 ^ 52
      above = omega arith

-- a subnormal number, by its leading zeros
module _ (b : ℕ) (n : Subnormal b) where
  pub record Shifted (z : ℕ) : Type 0 where
    pub zeros : count_leading_zeros 64 b ≡ z + 11
    pub some : 1 ≤ z
    pub all : z ≤ 52
    pub least : 2 ^ 52 ≤ b * 2 ^ z
    pub most : b * 2 ^ z < 2 ^ 53

  pub shifted : Shifted (count_leading_zeros 64 b - 11)
  shifted =
      let t = leading_top 64 b n.least (omega (arith, n.most)) in
      let j : ℕ = t.0 in
      let l : count_leading_zeros 64 b + suc j ≡ 64 = t.1 in
      let h : j < 52 = lt_of_not-le (λ (g : 52 ≤ j). let p : 2 ^ 52 ≤ 2 ^ j = pow_mono g in omega (arith, t.2, n.most)) in
      let z : count_leading_zeros 64 b - 11 ≡ 52 - j = omega arith in
      let e : 2 ^ j * 2 ^ (52 - j) ≡ 2 ^ 52 = sym (pow-add 2 j (52 - j)) ∙ ap (λ (x : ℕ). 2 ^ x) (back j h) in
      let f : 2 ^ suc j * 2 ^ (52 - j) ≡ 2 ^ 53 = sym (pow-add 2 (suc j) (52 - j)) ∙ ap (λ (x : ℕ). 2 ^ x) (back_suc j h) in
      record {
        zeros = omega arith;
        some = omega arith;
        all = omega arith;
        least = subst (λ (x : ℕ). 2 ^ 52 ≤ b * 2 ^ x) (sym z) (subst (λ (x : ℕ). x ≤ b * 2 ^ (52 - j)) e (mul-le-mul_right (2 ^ (52 - j)) t.2));
        most = subst (λ (x : ℕ). b * 2 ^ x < 2 ^ 53) (sym z) (subst (λ (x : ℕ). b * 2 ^ (52 - j) < x) f (mul-lt-mul_of_pos_right t.3 (pow_pos (52 - j))));
      }
    where
      back : (j : ℕ) → j < 52 → j + (52 - j) ≡ 52
      back j h = omega arith

      back_suc : (j : ℕ) → j < 52 → suc j + (52 - j) ≡ 53
      back_suc j h = omega arith

  pub subnormal_scaled : {z : ℕ} → Shifted z → Scaled (b * 2 ^ z) (1022 - z)
  subnormal_scaled h = record { least = h.least; most = h.most; lowest = omega (arith, h.all); highest = omega arith }

  pub shift_exact : {z : ℕ} → Shifted z → b * 2 ^ z % 2 ^ 64 ≡ b * 2 ^ z
  shift_exact h = mod-eq_of_lt (omega (arith, h.most))

  pub subnormal_root : {z : ℕ} → Shifted z → RootUnits (of_bits binary64 b) (b * 2 ^ z * 2 ^ (1022 - z + 52))
  subnormal_root {z} h =
      root_counts (of_bits binary64 b) b _ n.least (counts_low b n.most)
      (sym (mul_assoc b (2 ^ z) (2 ^ (1022 - z + 52)) ∙ ap (λ (x : ℕ). b * x) (sym (pow-add 2 z (1022 - z + 52)) ∙ ap (λ (x : ℕ). 2 ^ x) parts)))
    where
      parts : z + (1022 - z + 52) ≡ 1074
      parts = omega (arith, h.all)
