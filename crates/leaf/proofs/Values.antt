-- Which number a bit pattern with no sign stands for, in units of 2 ^ -1074, and that the number fixes the float.
use mathlib.Core.Path.{◌≡◌, refl, sym, ap, ◌∙◌, subst}
use mathlib.Core.Logic.{◌⊎◌, inl, inr}
use Prim.Native.Nat.{ℕ, suc, ◌+◌, ◌-◌, ◌*◌, ◌/◌, ◌%◌, ◌^◌, ◌≤◌, ◌<◌}
use native.Mathlib.Nat.{eq-or-lt_of_le, mul-div_cancel, mul-one, mul_assoc, zero-add, pow-succ'}
use native.Mathlib.Omega.{arith}
use mathlib.Core.Bool.{Bool, false, cond}
use lib.Dec.{T, leb, eqb, not_T, eqb→eq}
use lib.Arith.{lt→nleb}
use lib.Ieee.{Float, nan, inf, fin, binary64, down, size, odd, fits, of_fields, of_bits, to_bits}
use lib.Ieee.Bits.{is_false, cond_no, of_bits-to_bits}
use lib.Ieee.Fits.{down_pos}
use lib.Ieee.Exact.{HasValue, odd_sign}
use Rattle.leaf.specs.Root.{units_of}

-- x is finite, not negative, and n units in size
abbrev pub Counts : Float → ℕ → Type 0
Counts x n = HasValue x false n (2 ^ 1074)

fields : (b x t : ℕ) → b < 2 ^ 63 → b % 2 ^ 63 / 2 ^ 52 ≡ x → b % 2 ^ 52 ≡ t → of_bits binary64 b ≡ of_fields binary64 false x t
unfolding of_bits
fields b x t h p q =
    ap (λ (s : Bool). of_fields binary64 s (b % 2 ^ 63 / 2 ^ 52) (b % 2 ^ 52)) (is_false (leb (2 ^ 63) b) (lt→nleb (2 ^ 63) b h))
    ∙ ap (λ (y : ℕ). of_fields binary64 false y (b % 2 ^ 52)) p
    ∙ ap (λ (y : ℕ). of_fields binary64 false x y) q

low_fields : (t : ℕ) → of_fields binary64 false 0 t ≡ odd 53 false t 0 1074
unfolding of_fields
low_fields t = refl

high_fields : (k t : ℕ) → k ≤ 2045 → of_fields binary64 false (suc k) t ≡ odd 53 false (2 ^ 52 + t) k 1074
unfolding of_fields
high_fields k t h =
    cond_no (eqb (suc k) 2047) (cond (eqb t 0) (inf false) nan) (odd 53 false (2 ^ 52 + t) k 1074)
    (not_T (eqb (suc k) 2047) (λ e. let d : suc k ≡ 2047 = eqb→eq (suc k) 2047 e in omega arith))

-- below the normal numbers
pub counts_low : (b : ℕ) → b < 2 ^ 52 → Counts (of_bits binary64 b) b
counts_low b h =
    subst (λ (n : ℕ). Counts (of_bits binary64 b) n) (mul-one b)
    (subst (λ (x : Float). Counts x (b * 2 ^ 0)) (sym (fields b 0 b (omega arith) (omega arith) (omega arith) ∙ low_fields b)) (odd_sign 53 false b 0 1074))

-- a significand of 53 digits and an exponent
counts_at : (k q : ℕ) → k ≤ 2045 → 2 ^ 52 ≤ q → q < 2 ^ 53 → Counts (of_bits binary64 (k * 2 ^ 52 + q)) (q * 2 ^ k)
counts_at k q h a b =
    let t : 2 ^ 52 + (q - 2 ^ 52) ≡ q = omega arith in
    subst (λ (x : Float). Counts x (q * 2 ^ k))
    (sym (fields (k * 2 ^ 52 + q) (suc k) (q - 2 ^ 52) (omega arith) (omega arith) (omega arith) ∙ high_fields k (q - 2 ^ 52) h ∙ ap (λ (y : ℕ). odd 53 false y k 1074) t))
    (odd_sign 53 false q k 1074)

-- a significand that was rounded up to 2 ^ 53 is the next exponent's first
pub counts : (k q : ℕ) → k * 2 ^ 52 + q < 0x7ff0_0000_0000_0000 → 2 ^ 52 ≤ q → q ≤ 2 ^ 53 → Counts (of_bits binary64 (k * 2 ^ 52 + q)) (q * 2 ^ k)
counts k q h a b = go (eq-or-lt_of_le b)
  where
    next : q ≡ 2 ^ 53 → k * 2 ^ 52 + q ≡ suc k * 2 ^ 52 + 2 ^ 52
    next e = omega arith

    twice : q ≡ 2 ^ 53 → 2 ^ 52 * 2 ^ suc k ≡ q * 2 ^ k
    twice e = ap (λ (x : ℕ). 2 ^ 52 * x) (pow-succ' 2 k) ∙ sym (mul_assoc (2 ^ 52) 2 (2 ^ k)) ∙ ap (λ (x : ℕ). x * 2 ^ k) (sym e)

    go : (q ≡ 2 ^ 53) ⊎ (q < 2 ^ 53) → Counts (of_bits binary64 (k * 2 ^ 52 + q)) (q * 2 ^ k)
    go (inl e) =
        subst (λ (b : ℕ). Counts (of_bits binary64 b) (q * 2 ^ k)) (sym (next e))
        (subst (λ (n : ℕ). Counts (of_bits binary64 (suc k * 2 ^ 52 + 2 ^ 52)) n) (twice e) (counts_at (suc k) (2 ^ 52) (omega arith) (omega arith) (omega arith)))
    go (inr l) = counts_at k q (omega arith) a l

pub counts_units : (x : Float) (n : ℕ) → Counts x n → units_of x ≡ n
unfolding units_of
counts_units nan n h = absurd h
counts_units (inf s) n h = absurd h
counts_units (fin s m e) n h = ap (λ (y : ℕ). y / down e) h.1 ∙ mul-div_cancel n (down_pos e)

-- the pattern of n units
bits_of : ℕ → ℕ
bits_of n = (size n - 53) * 2 ^ 52 + n / 2 ^ (size n - 53)

counts_bits : (x : Float) (n : ℕ) → Counts x n → to_bits binary64 x ≡ bits_of n
unfolding to_bits bits_of units_of
counts_bits nan n h = absurd h
counts_bits (inf s) n h = absurd h
counts_bits (fin s m e) n h =
    ap (λ (t : Bool). cond t (2 ^ 63) 0 + (size (units_of (fin s m e)) - 53) * 2 ^ 52 + units_of (fin s m e) / 2 ^ (size (units_of (fin s m e)) - 53)) h.0
    ∙ ap (λ (y : ℕ). 0 + (size y - 53) * 2 ^ 52 + y / 2 ^ (size y - 53)) (counts_units (fin s m e) n h)
    ∙ ap (λ (y : ℕ). y + n / 2 ^ (size n - 53)) (zero-add ((size n - 53) * 2 ^ 52))

pub counts_once : (x y : Float) (n : ℕ) → T (fits binary64 x) → T (fits binary64 y) → Counts x n → Counts y n → x ≡ y
counts_once x y n f g h k =
    sym (of_bits-to_bits binary64 x f) ∙ ap (of_bits binary64) (counts_bits x n h ∙ sym (counts_bits y n k)) ∙ of_bits-to_bits binary64 y g
