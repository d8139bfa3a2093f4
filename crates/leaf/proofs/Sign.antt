-- A float's pattern with bits taken off. Without the sign's bit it is the pattern of the absolute value.
use mathlib.Core.Path.{◌≡◌, refl, sym, ap, ◌∙◌, subst}
use Prim.Native.Nat.{ℕ, zero, suc, ◌+◌, ◌-◌, ◌*◌, ◌/◌, ◌%◌, ◌^◌, ◌≤◌, ◌<◌}
use native.Mathlib.Nat.{add_assoc, zero-add}
use native.Mathlib.Omega.{arith}
use mathlib.Core.Bool.{Bool, true, false, not, cond}
use lib.IntN.{ℤ}
use lib.Dec.{T, ltb, nltb→le}
use lib.Bits.{bit_and, and_mod, and_le_l}
use lib.Ieee.{Float, nan, inf, fin, binary64, prec, low, up, down, size, fits, is_nan, of_bits, to_bits, nan_bits}
use lib.Ieee.Bits.{of_bits-to_bits, to_bits-lt, nan_bits_is, nan_bits_above}
use Rattle.leaf.specs.Abs.{abs_of}
use Rattle.leaf.proofs.Nan.{no_nan_bits}

-- the pattern of a finite float after its sign
rest : ℕ → ℤ → ℕ
rest m e = let n = m * up e * 2 ^ low binary64 / down e in (size n - prec binary64) * 2 ^ 52 + n / 2 ^ (size n - prec binary64)

pattern : (s : Bool) (m : ℕ) (e : ℤ) → to_bits binary64 (fin s m e) ≡ cond s (2 ^ 63) 0 + rest m e
unfolding to_bits rest
pattern s m e = add_assoc _ _ _

cut_true : (b a : ℕ) → b ≡ 2 ^ 63 + a → b < 2 * 2 ^ 63 → b % 2 ^ 63 ≡ a
cut_true b a e h = omega arith

cut_false : (b a c : ℕ) → b ≡ 0 + a → c ≡ 2 ^ 63 + a → c < 2 * 2 ^ 63 → b % 2 ^ 63 ≡ a
cut_false b a c e f h = omega arith

-- whether a finite float fits does not turn on its sign
either_sign : (s t : Bool) (m : ℕ) (e : ℤ) → T (fits binary64 (fin s m e)) → T (fits binary64 (fin t m e))
unfolding fits
either_sign s t zero e h = h
either_sign s t (suc m) e h = h

cut : (s : Bool) (m : ℕ) (e : ℤ) → T (fits binary64 (fin s m e)) → to_bits binary64 (fin s m e) % 2 ^ 63 ≡ rest m e
cut true m e h = cut_true _ _ (pattern true m e) (to_bits-lt binary64 (fin true m e) h)
cut false m e h = cut_false _ _ _ (pattern false m e) (pattern true m e) (to_bits-lt binary64 (fin true m e) (either_sign false true m e h))

-- a finite float without a sign has a pattern below the sign's bit
pub unsigned_bits : (m : ℕ) (e : ℤ) → T (fits binary64 (fin false m e)) → to_bits binary64 (fin false m e) < 2 ^ 63
unsigned_bits m e h = below _ _ _ (pattern false m e) (pattern true m e) (to_bits-lt binary64 (fin true m e) (either_sign false true m e h))
  where
    below : (b a c : ℕ) → b ≡ 0 + a → c ≡ 2 ^ 63 + a → c < 2 * 2 ^ 63 → b < 2 ^ 63
    below b a c p q l = omega arith

pub unsigned : (x : Float) → T (fits binary64 x) → T (not (is_nan x)) → of_bits binary64 (to_bits binary64 x % 2 ^ 63) ≡ abs_of x
unfolding abs_of is_nan
unsigned nan h n = absurd n
unsigned (inf true) h n = unfold of_bits to_bits in refl
unsigned (inf false) h n = unfold of_bits to_bits in refl
unsigned (fin s m e) h n =
    ap (of_bits binary64) (cut s m e h ∙ sym (zero-add (rest m e)) ∙ sym (pattern false m e))
    ∙ of_bits-to_bits binary64 (fin false m e) (either_sign s false m e h)

-- a number with bits of its pattern taken off is a number
pub masked_no_nan : (x : Float) (mask : ℕ) → T (fits binary64 x) → T (not (is_nan x)) → T (not (nan_bits binary64 (bit_and (to_bits binary64 x) mask)))
masked_no_nan x mask h n =
    let b = to_bits binary64 x in
    let is : is_nan x ≡ ltb 0x7ff0_0000_0000_0000 (b % 2 ^ 63) = ap is_nan (sym (of_bits-to_bits binary64 x h)) ∙ sym (nan_bits_is binary64 b) ∙ nan_bits_above binary64 b in
    let small : b % 2 ^ 63 ≤ 0x7ff0_0000_0000_0000 = nltb→le _ _ (subst (λ (t : Bool). T (not t)) is n) in
    let less : bit_and b mask % 2 ^ 63 ≤ b % 2 ^ 63 = subst (λ (k : ℕ). k ≤ b % 2 ^ 63) (sym (and_mod b mask 63)) (and_le_l (b % 2 ^ 63) (mask % 2 ^ 63)) in
    no_nan_bits (bit_and b mask) (omega arith)
