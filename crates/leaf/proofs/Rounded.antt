-- `rounded` by the cut root of 54 digits.
use mathlib.Core.Path.{◌≡◌, refl, sym, ap, ◌∙◌, subst}
use Prim.Native.Nat.{ℕ, zero, suc, ◌+◌, ◌-◌, ◌*◌, ◌/◌, ◌%◌, ◌^◌, ◌≤◌, ◌<◌}
use native.Mathlib.Nat.{le_of_eq, lt_of_lt_of_le, le_trans, lt_of_not-le, mul-one, mul_assoc, mul-mul-mul_comm, mul-div_cancel, mul-le-mul_right, mul-le-mul_left, pow-suc}
use native.Mathlib.Omega.{arith}
use mathlib.Core.Bool.{Bool, false, cond}
use lib.Dec.{ltb, lt→ltb}
use lib.Pow.{pow-add, pow_pos, pow_mono, shl_lt}
use lib.Ieee.{inf, binary64, size, odd, units, of_bits}
use lib.Ieee.Digits.{size-lt, size-le}
use lib.Ieee.Fits.{odd-fits}
use lib.Ieee.Bits.{is_true, of_bits-fits}
use lib.Ieee.Exact.{odd_sign}
use Rattle.leaf.specs.Root.{root_digits, rounded}
use Rattle.leaf.specs.inner.Cut.{CutRoot}
use Rattle.leaf.specs.inner.Scaled.{Scaled}
use Rattle.leaf.proofs.Cut.{square_mono, cut_once, digits_cut}
use Rattle.leaf.proofs.Values.{counts, counts_once}

-- how many digits m * 2 ^ j has, if m has 53
digits_of : (m j : ℕ) → 2 ^ 52 ≤ m → m < 2 ^ 53 → size (m * 2 ^ j) ≡ j + 53
digits_of m j a b =
    let lo : 2 ^ (52 + j) ≤ m * 2 ^ j = subst (λ (x : ℕ). x ≤ m * 2 ^ j) (sym (pow-add 2 52 j)) (mul-le-mul_right (2 ^ j) a) in
    let up : size (m * 2 ^ j) ≤ 53 + j = size-le (m * 2 ^ j) (53 + j) (shl_lt 53 j b) in
    let under : 52 + j < size (m * 2 ^ j) =
    lt_of_not-le (λ (g : size (m * 2 ^ j) ≤ 52 + j).
    let c : m * 2 ^ j < 2 ^ (52 + j) = lt_of_lt_of_le (size-lt (m * 2 ^ j)) (pow_mono g) in omega arith) in
    omega arith

pub fours : (k : ℕ) → 4 ^ k ≡ 2 ^ (k + k)
fours k = go k ∙ sym (pow-add 2 k k)
  where
    go : (k : ℕ) → 4 ^ k ≡ 2 ^ k * 2 ^ k
    go zero = refl
    go (suc k) =
        let a : 2 ^ suc k ≡ 2 ^ k * 2 = pow-suc 2 k in
        pow-suc 4 k ∙ ap (λ (x : ℕ). x * 4) (go k) ∙ sym (ap (λ (x : ℕ). x * x) a ∙ spread (2 ^ k))
      where
        spread : (p : ℕ) → p * 2 * (p * 2) ≡ p * p * 4
        spread p = mul-mul-mul_comm p 2 p 2

-- the units of a significand of 53 digits, also if it was rounded up to 2 ^ 53
units_bits : (k q : ℕ) → k ≤ 2044 → 2 ^ 52 ≤ q → q ≤ 2 ^ 53 → units binary64 false q k ≡ of_bits binary64 (k * 2 ^ 52 + q)
unfolding units
units_bits k q h a b =
    units_odd ∙ counts_once (odd 54 false q k 1074) (of_bits binary64 (k * 2 ^ 52 + q)) (q * 2 ^ k)
    (odd-fits binary64 54 false q k small b below)
    (of_bits-fits binary64 (k * 2 ^ 52 + q)) (odd_sign 54 false q k 1074) (counts k q (omega arith) a b)
  where
    small : q < 2 ^ 54
    small = omega arith

    below : q * 2 ^ k < 2 ^ 2098
    below = lt_of_lt_of_le (shl_lt 54 k small) (pow_mono {i = 54 + k} {j = 2098} (omega arith))

    units_odd : units binary64 false q k ≡ odd 54 false q k 1074
    units_odd = ap (λ (t : Bool). cond t (odd 54 false q k 1074) (inf false)) (is_true (ltb (q * 2 ^ k) (2 ^ 2098)) (lt→ltb (q * 2 ^ k) (2 ^ 2098) below))

by_parts : (v k w : ℕ) → (size v + 1) / 2 - 54 ≡ k → v / 4 ^ k ≡ w → rounded v ≡ units binary64 false ((root_digits 54 w + 1) / 2) (k + 1)
unfolding rounded
by_parts v k w p q =
    ap (λ (j : ℕ). units binary64 false ((root_digits 54 (v / 4 ^ j) + 1) / 2) (j + 1)) p
    ∙ ap (λ (y : ℕ). units binary64 false ((root_digits 54 y + 1) / 2) (k + 1)) q

pub record Long (s : ℕ) : Type 0 where
  pub least : 2 ^ 53 ≤ s
  pub most : s < 2 ^ 54

-- the cut root of a number of 107 or 108 digits has 54
pub long : (w s : ℕ) → 2 ^ 106 ≤ w → w < 2 ^ 108 → CutRoot w s → Long s
long w s a b c = record {
  least =
      let l : 2 ^ 53 < s + 1 = lt_of_not-le (λ (g : s + 1 ≤ 2 ^ 53). let m : (s + 1) * (s + 1) ≤ 2 ^ 106 = square_mono (s + 1) (2 ^ 53) g in omega (arith, c.high)) in
      omega arith;
  most = lt_of_not-le (λ (g : 2 ^ 54 ≤ s). let m : 2 ^ 108 ≤ s * s = square_mono (2 ^ 54) s g in omega (arith, c.low));
}

module _ (m at : ℕ) (z : Scaled m at) where
  pub even_least : 2 ^ 52 ≤ m * 2 ^ (at % 2)
  even_least = le_trans z.least (le_trans (le_of_eq (sym (mul-one m))) (mul-le-mul_left m (pow_pos (at % 2))))

  pub even_most : m * 2 ^ (at % 2) < 2 ^ 54
  even_most = lt_of_lt_of_le (shl_lt 53 (at % 2) z.most) (pow_mono {i = 53 + at % 2} {j = 54} (omega arith))

  pub rounded_cut : (s : ℕ) → CutRoot (m * 2 ^ (at % 2) * 2 ^ 54) s → rounded (m * 2 ^ (at + 52)) ≡ of_bits binary64 (at / 2 * 2 ^ 52 + (s + 1) / 2)
  rounded_cut s c =
      let w = m * 2 ^ (at % 2) * 2 ^ 54 in
      let lo : 2 ^ 106 ≤ w = mul-le-mul_right (2 ^ 54) even_least in
      let hi : w < 2 ^ 108 = shl_lt 54 54 even_most in
      let l : Long s = long w s lo hi c in
      let sz : size (m * 2 ^ (at + 52)) ≡ at + 52 + 53 = digits_of m (at + 52) z.least z.most in
      let cut : m * 2 ^ (at + 52) / 4 ^ (at / 2 - 1) ≡ w =
      ap (λ (x : ℕ). x / 4 ^ (at / 2 - 1))
      (ap (λ (x : ℕ). m * 2 ^ x) parts ∙ ap (λ (x : ℕ). m * x) (pow-add 2 (at % 2 + 54) (at / 2 - 1 + (at / 2 - 1)) ∙ ap (λ (x : ℕ). x * 2 ^ (at / 2 - 1 + (at / 2 - 1))) (pow-add 2 (at % 2) 54))
      ∙ sym (mul_assoc m (2 ^ (at % 2) * 2 ^ 54) (2 ^ (at / 2 - 1 + (at / 2 - 1))))
      ∙ ap (λ (x : ℕ). x * 2 ^ (at / 2 - 1 + (at / 2 - 1))) (sym (mul_assoc m (2 ^ (at % 2)) (2 ^ 54)))
      ∙ ap (λ (x : ℕ). w * x) (sym (fours (at / 2 - 1))))
      ∙ mul-div_cancel w (subst (λ (x : ℕ). 0 < x) (sym (fours (at / 2 - 1))) (pow_pos (at / 2 - 1 + (at / 2 - 1)))) in
      let e : root_digits 54 w ≡ s = cut_once w (root_digits 54 w) s (digits_cut 54 w hi) c in
      by_parts (m * 2 ^ (at + 52)) (at / 2 - 1) w (ap (λ (x : ℕ). (x + 1) / 2 - 54) sz ∙ half) cut
      ∙ ap (λ (x : ℕ). units binary64 false ((x + 1) / 2) (at / 2 - 1 + 1)) e
      ∙ ap (λ (x : ℕ). units binary64 false ((s + 1) / 2) x) one
      ∙ units_bits (at / 2) ((s + 1) / 2) (omega (arith, z.highest)) (omega (arith, l.least)) (omega (arith, l.most))
    where
      parts : at + 52 ≡ at % 2 + 54 + (at / 2 - 1 + (at / 2 - 1))
      parts = omega (arith, z.lowest)

      half : (at + 52 + 53 + 1) / 2 - 54 ≡ at / 2 - 1
      half = omega arith

      one : at / 2 - 1 + 1 ≡ at / 2
      one = omega (arith, z.lowest)
