-- Operations that change nothing: rounding a number of the format, x·1, +0 + x, and x − x. Assumes nothing.
use mathlib.Core.Path.{◌≡◌, refl, sym, ◌∙◌, ap, subst}
use mathlib.Core.Bool.{Bool, true, false, cond, ◌&&◌}
use Prim.Native.Nat.{ℕ, zero, suc, ◌+◌, ◌-◌, ◌*◌, ◌/◌, ◌%◌, ◌^◌, ◌≤◌, ◌<◌}
use native.Mathlib.Nat.{sub-zero, mul-one, one-mul, mul_comm, mul_assoc, mul_right_comm, zero-mul, zero-add, sub_self, mul-pos, zero-lt-suc, lt_irrefl, eq_of_mul-eq-mul_right, le_refl, lt_of_lt_of_le, lt_of_mul-lt-mul_right, mul-lt-mul_of_pos_right}
use native.Mathlib.Omega.{arith}
use lib.IntN.{ℤ, pos, negsuc}
use lib.Dec.{T, leb, ltb, eqb, ltb→lt, leb→le}
use lib.Pow.{pow-add, pow_pos, pow-lt}
use borrow.Author.Tests.{lt-ltb, le-ltb}
use lib.Ieee.{Float, nan, inf, fin, Format, prec, emax, low, hid, top, up, down, size, round, sum, add, sub, mul, neg, fits, of_bits, to_bits}
use lib.Ieee.Bits.{of_bits-to_bits}
use lib.Ieee.Fits.{and_l, and_r, up_pos, down_pos, round-fits}
use lib.Ieee.Digits.{back}
use lib.Ieee.Exact.{HasValue, round_exact}
use lib.Ieee.Nearest.{div_same}
use Rattle.matrix.proofs.Products.{mul_commutes}

-- ---- a value fixes the float

bits_by : (f : Format) → Bool → ℕ → ℕ
bits_by f s n = cond s (top f) 0 + (size n - prec f) * hid f + n / 2 ^ (size n - prec f)

bits_of : (f : Format) (s : Bool) (m : ℕ) (e : ℤ) → to_bits f (fin s m e) ≡ bits_by f s (m * up e * 2 ^ low f / down e)
unfolding to_bits bits_by
bits_of f s m e = refl

-- cross-multiplied fractions have the same units
same_units : (f : Format) (m : ℕ) (e : ℤ) (n : ℕ) (d : ℤ) (a c : ℕ) → 0 < c → m * up e * c ≡ a * down e → n * up d * c ≡ a * down d
    → m * up e * 2 ^ low f / down e ≡ n * up d * 2 ^ low f / down d
same_units f m e n d a c positive h k =
    div_same (m * up e * 2 ^ low f) (down e) (n * up d * 2 ^ low f) (down d) (down_pos e) (down_pos d)
    (mul_right_comm (m * up e) (2 ^ low f) (down d) ∙ ap (λ (x : ℕ). x * 2 ^ low f) cross ∙ mul_right_comm (n * up d) (down e) (2 ^ low f))
  where
    cross : m * up e * down d ≡ n * up d * down e
    cross =
        eq_of_mul-eq-mul_right c positive (m * up e * down d) (n * up d * down e)
        (mul_right_comm (m * up e) (down d) c
        ∙ ap (λ (x : ℕ). x * down d) h
        ∙ mul_right_comm a (down e) (down d)
        ∙ ap (λ (x : ℕ). x * down e) (sym k)
        ∙ mul_right_comm (n * up d) c (down e))

pub value_once : (f : Format) (x y : Float) (s : Bool) (a c : ℕ) → 0 < c → T (fits f x) → T (fits f y) → HasValue x s a c → HasValue y s a c → x ≡ y
value_once f nan y s a c positive held held' h k = absurd h
value_once f (inf t) y s a c positive held held' h k = absurd h
value_once f (fin t m e) nan s a c positive held held' h k = absurd k
value_once f (fin t m e) (inf u) s a c positive held held' h k = absurd k
value_once f (fin t m e) (fin u n d) s a c positive held held' h k =
    sym (of_bits-to_bits f (fin t m e) held)
    ∙ ap (of_bits f) (bits_of f t m e ∙ ap (λ (r : Bool). bits_by f r (m * up e * 2 ^ low f / down e)) (h.0 ∙ sym k.0) ∙ ap (bits_by f u) (same_units f m e n d a c positive h.1 k.1) ∙ sym (bits_of f u n d))
    ∙ of_bits-to_bits f (fin u n d) held'

-- ---- rounding a number of the format

-- what `fits` says of a number above zero
small_of : (f : Format) (s : Bool) (m : ℕ) (e : ℤ) → T (fits f (fin s (suc m) e)) → suc m < 2 ^ prec f
unfolding fits
small_of f s m e t =
    ltb→lt (suc m) (2 ^ prec f)
    (and_r (eqb (suc m % 2) 1) (ltb (suc m) (2 ^ prec f)) (and_l (eqb (suc m % 2) 1 && ltb (suc m) (2 ^ prec f)) (leb (down e) (2 ^ low f))
    (and_l (eqb (suc m % 2) 1 && ltb (suc m) (2 ^ prec f) && leb (down e) (2 ^ low f)) (ltb (suc m * up e) (2 ^ suc (emax f) * down e)) t)))

fine_of : (f : Format) (s : Bool) (m : ℕ) (e : ℤ) → T (fits f (fin s (suc m) e)) → down e ≤ 2 ^ low f
unfolding fits
fine_of f s m e t =
    leb→le (down e) (2 ^ low f)
    (and_r (eqb (suc m % 2) 1 && ltb (suc m) (2 ^ prec f)) (leb (down e) (2 ^ low f))
    (and_l (eqb (suc m % 2) 1 && ltb (suc m) (2 ^ prec f) && leb (down e) (2 ^ low f)) (ltb (suc m * up e) (2 ^ suc (emax f) * down e)) t))

under_of : (f : Format) (s : Bool) (m : ℕ) (e : ℤ) → T (fits f (fin s (suc m) e)) → suc m * up e < 2 ^ suc (emax f) * down e
unfolding fits
under_of f s m e t =
    ltb→lt (suc m * up e) (2 ^ suc (emax f) * down e)
    (and_r (eqb (suc m % 2) 1 && ltb (suc m) (2 ^ prec f) && leb (down e) (2 ^ low f)) (ltb (suc m * up e) (2 ^ suc (emax f) * down e)) t)

-- the power of two that a number of the format is a multiple of, in units
shift : Format → ℤ → ℕ
shift f (pos k) = k + low f
shift f (negsuc k) = low f - suc k

shifted : (f : Format) (e : ℤ) → down e ≤ 2 ^ low f → up e * 2 ^ low f ≡ 2 ^ shift f e * down e
unfolding shift
shifted f (pos k) h = sym (pow-add 2 k (low f)) ∙ sym (mul-one (2 ^ (k + low f)))
shifted f (negsuc k) h =
    one-mul (2 ^ low f) ∙ ap (λ (x : ℕ). 2 ^ x) (sym (back (low f) (suc k) (exponent (low f) (suc k) h))) ∙ pow-add 2 (low f - suc k) (suc k)
  where
    exponent : (a b : ℕ) → 2 ^ b ≤ 2 ^ a → b ≤ a
    exponent a b h = let over : (a < b) → ⊥ = λ lt. lt_irrefl (2 ^ a) (lt_of_lt_of_le (pow-lt lt) h) in omega arith

in_units : (f : Format) (m : ℕ) (e : ℤ) → down e ≤ 2 ^ low f → m * up e * 2 ^ low f ≡ m * 2 ^ shift f e * down e
in_units f m e h = mul_assoc m (up e) (2 ^ low f) ∙ ap (λ (x : ℕ). m * x) (shifted f e h) ∙ sym (mul_assoc m (2 ^ shift f e) (down e))

below_overflow : (f : Format) (m : ℕ) (e : ℤ) → down e ≤ 2 ^ low f → suc m * up e < 2 ^ suc (emax f) * down e → suc m * 2 ^ shift f e < 2 ^ (low f + suc (emax f))
below_overflow f m e h under =
    lt_of_mul-lt-mul_right (down e)
    (subst (λ (x : ℕ). suc m * 2 ^ shift f e * down e < x) (mul_right_comm (2 ^ suc (emax f)) (down e) (2 ^ low f) ∙ ap (λ (x : ℕ). x * down e) (mul_comm (2 ^ suc (emax f)) (2 ^ low f) ∙ sym (pow-add 2 (low f) (suc (emax f)))))
    (subst (λ (x : ℕ). x < 2 ^ suc (emax f) * down e * 2 ^ low f) (in_units f (suc m) e h) (mul-lt-mul_of_pos_right under (pow_pos (low f)))))

pub own_round : (f : Format) (s : Bool) (m : ℕ) (e : ℤ) → T (fits f (fin s m e)) → round f s (m * up e) (down e) ≡ fin s m e
own_round f s zero e held =
    value_once f (round f s (0 * up e) (down e)) (fin s 0 e) s (0 * up e) (down e) (down_pos e) (round-fits f s (0 * up e) (down e)) held
    (round_exact f s (0 * up e) (down e) 0 0 (down_pos e) (pow_pos (prec f)) (pow_pos (low f + suc (emax f))) (simp zero-mul))
    (refl, refl)
own_round f s (suc m) e held =
    value_once f (round f s (suc m * up e) (down e)) (fin s (suc m) e) s (suc m * up e) (down e) (down_pos e) (round-fits f s (suc m * up e) (down e)) held
    (round_exact f s (suc m * up e) (down e) (suc m) (shift f e) (down_pos e) (small_of f s m e held) (below_overflow f m e (fine_of f s m e held) (under_of f s m e held)) (in_units f (suc m) e (fine_of f s m e held)))
    (refl, refl)

-- ---- x·1 and 1·x

abbrev pub one : Float
one = fin false 1 (pos 0)

pub times_one : (f : Format) (x : Float) → T (fits f x) → mul f x one ≡ x
unfolding mul
times_one f nan held = refl
times_one f (inf true) held = refl
times_one f (inf false) held = refl
times_one f (fin true m e) held = simp (mul-one) (own_round f true m e held)
times_one f (fin false m e) held = simp (mul-one) (own_round f false m e held)

pub one_times : (f : Format) (x : Float) → T (fits f x) → mul f one x ≡ x
one_times f x held = mul_commutes f one x ∙ times_one f x held

-- ---- +0 + x, and x − x

abbrev pub plus_zero_law : Float
plus_zero_law = fin false 0 (pos 0)

pub zero_plus : (f : Format) (s : Bool) (m : ℕ) (e : ℤ) → T (fits f (fin s (suc m) e)) → add f plus_zero_law (fin s (suc m) e) ≡ fin s (suc m) e
unfolding add sum
zero_plus f false m e held = simp (zero-mul, mul-one, one-mul, zero-add) (own_round f false (suc m) e held)
zero_plus f true m e held = simp (zero-mul, mul-one, one-mul, sub-zero, lt-ltb 0 (suc m * up e) (mul-pos (zero-lt-suc m) (up_pos e))) (own_round f true (suc m) e held)

zero_fits : (f : Format) → T (fits f plus_zero_law)
unfolding fits
zero_fits f = tt

round_zero : (f : Format) (c : ℕ) → 0 < c → round f false 0 c ≡ plus_zero_law
round_zero f c positive =
    value_once f (round f false 0 c) plus_zero_law false 0 c positive (round-fits f false 0 c) (zero_fits f)
    (round_exact f false 0 c 0 0 positive (pow_pos (prec f)) (pow_pos (low f + suc (emax f))) (simp zero-mul))
    (refl, simp (zero-mul))

pub less_itself : (f : Format) (s : Bool) (m : ℕ) (e : ℤ) → sub f (fin s m e) (fin s m e) ≡ plus_zero_law
unfolding sub add neg sum
less_itself f true m e = simp (le-ltb (m * up e * down e) (m * up e * down e) (le_refl (m * up e * down e)), sub_self) (round_zero f (down e * down e) (mul-pos (down_pos e) (down_pos e)))
less_itself f false m e = simp (le-ltb (m * up e * down e) (m * up e * down e) (le_refl (m * up e * down e)), sub_self) (round_zero f (down e * down e) (mul-pos (down_pos e) (down_pos e)))
