-- How large a crumb is: what Cholesky leaves of v on the second diagonal of neighbouring twins, v + (−(v / root v))·(v / root v), is finite and in size 2 ^ -50 of v at most,
-- for every v above zero up to 2 ^ 1023, subnormal ones included. Assumes nothing.
use mathlib.Core.Path.{◌≡◌, refl, sym, ap, ◌∙◌, subst}
use mathlib.Core.Bool.{Bool, true, false, not}
use mathlib.Core.Logic.{⊎_elim}
use Prim.Native.Nat.{ℕ, zero, suc, ◌+◌, ◌-◌, ◌*◌, ◌/◌, ◌^◌, ◌≤◌, ◌<◌}
use native.Mathlib.Nat.{le_trans, le_of_eq, le_of_lt, lt_of_lt_of_le, lt_of_le_of_lt, lt_of_mul-lt-mul_left, lt_of_not-le, not-le_of_lt, mul-one, one-mul, mul_assoc, mul_comm, mul-le-mul, mul-le-mul_right, mul-le-mul_left, mul-pos, le_of_mul-le-mul_right, le-div_iff_mul-le, div-lt_iff_lt-mul}
use native.Mathlib.Omega.{arith}
use lib.IntN.{pos}
use lib.Dec.{T, ltb, lit<, lit≤}
use lib.Pow.{pow-add, pow_pos, pow_mono}
use lib.Ieee.{Float, nan, inf, fin, binary64, low, up, down, minus, size, round, neg, le, fits}
use lib.Ieee.Digits.{size-lt, size_reaches}
use lib.Ieee.Exact.{HasValue, units_val}
use lib.Ieee.Order.{drop, round_mono}
use lib.Ieee.Scale.{grid, overflow, finite, round_under}
use lib.Ieee.Positive.{num, den, positive, value_pos, values_of_le}
use Rattle.leaf.specs.Abs.{abs_of}
use Rattle.leaf.specs.Root.{units_of, root_digits, rounded, root_of}
use Rattle.leaf.specs.inner.Cut.{CutRoot}
use Rattle.leaf.proofs.Cut.{digits_cut}
use Rattle.leaf.proofs.Rounded.{long, fours as powers-of-four}
use Rattle.leaf.proofs.Fields.{root_rounded}
use Rattle.leaf.proofs.Values.{counts_units}
use Rattle.cholesky.specs.Crate.{crate_rule}
use Rattle.twin_laws.proofs.Cholesky.{remainder}
use Rattle.twin_laws.proofs.Exact.{own_round}
use Rattle.leaf.proofs.Fractions.{Near, WithinHalf, round_off, round_near, kept_most, signed_round, product_of_law, quotient_of, distance, difference_of, exact_difference, round_abs}
use Rattle.matrix.specs.Rounded.{◌⊗◌, ◌⊘◌}

-- ---- the root

-- x / y ≤ d / c ≤ b / a
ratio : (c d a b x y : ℕ) → 0 < c → c * x ≤ d * y → d * a ≤ b * c → a * x ≤ b * y
ratio c d a b x y C h k =
    let i : a * (c * x) ≤ a * (d * y) = mul-le-mul_left a h in
    let j : d * a * y ≤ b * c * y = mul-le-mul_right y k in
    le_of_mul-le-mul_right {k = c} (omega arith) C

-- up to the root of 2 * w nothing overflows
no_overflow : (x w : ℕ) → 1 * (x * x) ≤ 2 * w → w ≤ 2 ^ 3171 → x < overflow binary64
no_overflow x w h most =
    lt_of_not-le (λ (g : overflow binary64 ≤ x). not-le_of_lt (lit< tt) (le_trans (mul-le-mul g g) (le_trans (le_of_eq (sym (one-mul (x * x)))) (le_trans h (mul-le-mul_left 2 most)))))

-- r is the root of w up to a share of 2 ^ -53
record NearRoot (r w : ℕ) : Type 0 where
  above : 2 ^ 53 * 2 ^ 53 * (r * r) ≤ (2 ^ 53 + 1) * (2 ^ 53 + 1) * w
  under : 2 ^ 53 * 2 ^ 53 * w ≤ (2 ^ 53 + 1) * (2 ^ 53 + 1) * (r * r)
  normal : 2 ^ 52 * r ≤ w
  some : 0 < r

-- with t / c ≤ s / p and c * g at most the root of w, t * g is at most s / p of it; and the other way round
squared_above : (p s t c g w : ℕ) → p * t ≤ s * c → c * c * (g * g) ≤ w → p * p * (t * g * (t * g)) ≤ s * s * w
squared_above p s t c g w h k =
    let a : p * t * (p * t) * (g * g) ≤ s * c * (s * c) * (g * g) = mul-le-mul_right (g * g) (mul-le-mul h h) in
    let b : s * s * (c * c * (g * g)) ≤ s * s * w = mul-le-mul_left (s * s) k in
    omega arith

squared_under : (p s t c g w : ℕ) → p * c ≤ s * t → w ≤ c * c * (g * g) → p * p * w ≤ s * s * (t * g * (t * g))
squared_under p s t c g w h k =
    let a : p * c * (p * c) * (g * g) ≤ s * t * (s * t) * (g * g) = mul-le-mul_right (g * g) (mul-le-mul h h) in
    let b : p * p * w ≤ p * p * (c * c * (g * g)) = mul-le-mul_left (p * p) k in
    omega arith

-- s the first 54 digits of the root, g the place of the last, t the one of s and s + 1 that is even
near_root : (s t g w : ℕ) → 2 ^ 53 ≤ s → s ≤ t → t ≤ s + 1 → 0 < g → s * s * (g * g) ≤ w → w < (s + 1) * (s + 1) * (g * g) → NearRoot (t * g) w
near_root s t g w long least most some low high =
    let a : 2 ^ 53 * g * (s * g) ≤ s * g * (s * g) = mul-le-mul_right (s * g) (mul-le-mul_right g long) in
    let b : t * g ≤ (s + 1) * g = mul-le-mul_right g most in
    let c : 2 ^ 53 * g ≤ s * g = mul-le-mul_right g long in
    let d : 1 * (s * g) ≤ g * (s * g) = mul-le-mul_right (s * g) some in
    record {
      above = squared_above (2 ^ 53) (2 ^ 53 + 1) t s g w (omega arith) low;
      under = squared_under (2 ^ 53) (2 ^ 53 + 1) t (s + 1) g w (omega arith) (le_of_lt high);
      normal = omega arith;
      some = mul-pos {m = t} {n = g} (omega arith) some;
    }

fours : (k : ℕ) → 4 ^ k ≡ 2 ^ k * 2 ^ k
fours k = powers-of-four k ∙ pow-add 2 k k

-- how many digits of the root of w `rounded` leaves off, and what it gives
abbrev left_off : ℕ → ℕ
left_off w = (size w + 1) / 2 - 54

abbrev root_units : ℕ → ℕ
root_units w = (root_digits 54 (w / 4 ^ left_off w) + 1) / 2 * 2 ^ (left_off w + 1)

-- so that 54 digits stay
place : (w : ℕ) → 2 ^ 106 ≤ w → (2 ^ 106 * 4 ^ left_off w ≤ w) × (w < 2 ^ 108 * 4 ^ left_off w)
place w least =
    let k = left_off w in
    let long : 106 < size w = lt_of_not-le (λ (g : size w ≤ 106). not-le_of_lt (lt_of_lt_of_le (size-lt w) (pow_mono g)) least) in (
      le_trans (le_of_eq (power 106 k)) (le_trans (pow_mono {i = 106 + (k + k)} {j = size w - 1} (omega arith)) (size_reaches w (size w - 1) (omega arith))),
      lt_of_lt_of_le (size-lt w) (le_trans (pow_mono {i = size w} {j = 108 + (k + k)} (omega arith)) (le_of_eq (sym (power 108 k)))),
    )
  where
    power : (n k : ℕ) → 2 ^ n * 4 ^ k ≡ 2 ^ (n + (k + k))
    power n k = ap (λ (x : ℕ). 2 ^ n * x) (fours k ∙ sym (pow-add 2 k k)) ∙ sym (pow-add 2 n (k + k))

root_near : (w : ℕ) → 2 ^ 106 ≤ w → NearRoot (root_units w) w
root_near w least =
    let k = left_off w in
    let s = root_digits 54 (w / 4 ^ k) in
    let q = (s + 1) / 2 in
    let some : 0 < 4 ^ k = subst (λ (x : ℕ). 0 < x) (sym (fours k)) (mul-pos (pow_pos k) (pow_pos k)) in
    let from : 2 ^ 106 ≤ w / 4 ^ k = (le-div_iff_mul-le some).1 (place w least).0 in
    let to : w / 4 ^ k < 2 ^ 108 = (div-lt_iff_lt-mul some).1 (place w least).1 in
    let cut : CutRoot (w / 4 ^ k) s = digits_cut 54 (w / 4 ^ k) to in
    let low : s * s * 4 ^ k ≤ w = (le-div_iff_mul-le some).0 cut.low in
    let high : w < (s + 1) * (s + 1) * 4 ^ k = (div-lt_iff_lt-mul some).0 cut.high in
    subst (λ (r : ℕ). NearRoot r w) (mul_assoc q 2 (2 ^ k) ∙ ap (λ (x : ℕ). q * x) (mul_comm 2 (2 ^ k) ∙ sym (pow-add 2 k 1)))
    (near_root s (q * 2) (2 ^ k) w (long (w / 4 ^ k) s from to cut).least (omega arith) (omega arith) (pow_pos k)
    (subst (λ (x : ℕ). s * s * x ≤ w) (fours k) low) (subst (λ (x : ℕ). w < (s + 1) * (s + 1) * x) (fours k) high))

rounded_value : (w : ℕ) → 2 ^ 106 ≤ w → w ≤ 2 ^ 3171 → HasValue (rounded w) false (root_units w) (2 ^ 1074)
unfolding rounded
rounded_value w least most =
    units_val binary64 false ((root_digits 54 (w / 4 ^ left_off w) + 1) / 2) (left_off w + 1)
    (no_overflow (root_units w) w (ratio (2 ^ 53 * 2 ^ 53) ((2 ^ 53 + 1) * (2 ^ 53 + 1)) 1 2 (root_units w * root_units w) w (lit< tt) (root_near w least).above (lit≤ tt)) most)

-- ---- the quotient and its square

-- with r near the root of w and q near w / r, q * q is near w
square_above : (p s r q w : ℕ) → 0 < r → p * (q * r) ≤ s * w → p * p * w ≤ s * s * (r * r) → p * p * (p * p) * (q * q) ≤ s * s * (s * s) * w
square_above p s r q w some quotient root =
    let a : p * p * (p * (q * r) * (p * (q * r))) ≤ p * p * (s * w * (s * w)) = mul-le-mul_left (p * p) (mul-le-mul quotient quotient) in
    let b : p * p * w * (s * s * w) ≤ s * s * (r * r) * (s * s * w) = mul-le-mul_right (s * s * w) root in
    le_of_mul-le-mul_right {k = r * r} (omega arith) (mul-pos some some)

square_under : (p s t r q w : ℕ) → 0 < p * r → t * w ≤ p * (q * r) → p * p * (r * r) ≤ s * s * w → t * t * w ≤ s * s * (q * q)
square_under p s t r q w some quotient root =
    let a : s * s * (t * w * (t * w)) ≤ s * s * (p * (q * r) * (p * (q * r))) = mul-le-mul_left (s * s) (mul-le-mul quotient quotient) in
    let b : p * p * (r * r) * (t * t * w) ≤ s * s * w * (t * t * w) = mul-le-mul_right (t * t * w) root in
    le_of_mul-le-mul_right {k = p * r * (p * r)} (omega arith) (mul-pos some some)

square_near : (r q w : ℕ) → NearRoot r w → Near (2 ^ 53) (q * r) w → Near (2 ^ 51 - 1) (q * q) w
square_near r q w root quotient =
    let above : (2 ^ 51 - 1) * (q * q) ≤ 2 ^ 51 * w =
    ratio (2 ^ 212) ((2 ^ 53 + 1) * (2 ^ 53 + 1) * ((2 ^ 53 + 1) * (2 ^ 53 + 1))) (2 ^ 51 - 1) (2 ^ 51) (q * q) w (lit< tt)
    (square_above (2 ^ 53) (2 ^ 53 + 1) r q w root.some (omega (arith, quotient.above)) root.under) (lit≤ tt) in
    let under : (2 ^ 51 - 2) * w ≤ (2 ^ 51 - 1) * (q * q) =
    ratio ((2 ^ 53 - 1) * (2 ^ 53 - 1)) ((2 ^ 53 + 1) * (2 ^ 53 + 1)) (2 ^ 51 - 2) (2 ^ 51 - 1) w (q * q) (lit< tt)
    (square_under (2 ^ 53) (2 ^ 53 + 1) (2 ^ 53 - 1) r q w (mul-pos (lit< tt) root.some) (omega (arith, quotient.under)) root.above) (lit≤ tt) in
    record { above = omega (arith, above); under = omega (arith, under) }

twice : (x w : ℕ) → Near (2 ^ 51 - 1) x w → 1 * x ≤ 2 * w
twice x w n = omega arith

near_cancel : (d x y u : ℕ) → 0 < u → Near d (x * u) (y * u) → Near d x y
near_cancel d x y u some n = record { above = le_of_mul-le-mul_right {k = u} (omega (arith, n.above)) some; under = le_of_mul-le-mul_right {k = u} (omega (arith, n.under)) some }

near_join : (x y z : ℕ) → Near (2 ^ 53) x y → Near (2 ^ 51 - 1) y z → Near (2 ^ 50) x z
near_join x y z n m = record { above = omega arith; under = omega arith }

-- the square rounded to t: moved by a share,
taken_moved : (q t v u : ℕ) → 0 < u → Near (2 ^ 51 - 1) (q * q) (v * u) → Near (2 ^ 53) (t * (u * u)) (q * q * u) → Near (2 ^ 50) t v
taken_moved q t v u some square product =
    let scaled : Near (2 ^ 53) (t * u) (q * q) = near_cancel (2 ^ 53) (t * u) (q * q) u some (subst (λ (x : ℕ). Near (2 ^ 53) x (q * q * u)) (sym (mul_assoc t u u)) product) in
    near_cancel (2 ^ 50) t v u some (near_join (t * u) (q * q) (v * u) scaled square)

-- or to the nearest whole number of units, c of them from v
off_by : (c v : ℕ) → (2 ^ 52 - 2) * c ≤ 2 * v + (2 ^ 51 - 1) → 2 ^ 50 * c ≤ v
off_by zero v h = omega arith
off_by (suc zero) v h = omega arith
off_by (suc (suc c)) v h = omega arith

taken_whole : (q t v u : ℕ) → 0 < u → Near (2 ^ 51 - 1) (q * q) (v * u) → WithinHalf (q * q * u) (u * u) t → Near (2 ^ 50) t v
taken_whole q t v u some square product =
    let more : 2 * (t * u) ≤ 2 * (q * q) + u = le_of_mul-le-mul_right {k = u} (omega (arith, product.above)) some in
    let less : 2 * (q * q) ≤ 2 * (t * u) + u = le_of_mul-le-mul_right {k = u} (omega (arith, product.under)) some in
    let high : (2 ^ 52 - 2) * t ≤ 2 ^ 52 * v + (2 ^ 51 - 1) = le_of_mul-le-mul_right {k = u} (omega (arith, square.above, more)) some in
    let low : (2 ^ 52 - 4) * v ≤ (2 ^ 52 - 2) * t + (2 ^ 51 - 1) = le_of_mul-le-mul_right {k = u} (omega (arith, square.under, less)) some in
    within (off_by (t - v) v (omega (arith, high))) (off_by (v - t) v (omega (arith, low)))
  where
    within : 2 ^ 50 * (t - v) ≤ v → 2 ^ 50 * (v - t) ≤ v → Near (2 ^ 50) t v
    within a b = record { above = omega (arith, a); under = omega (arith, b) }

-- ---- the crumb

neg_value : (x : Float) (a c : ℕ) → HasValue x false a c → HasValue (neg x) true a c
unfolding neg
neg_value nan a c h = h
neg_value (inf s) a c h = h
neg_value (fin s m e) a c h = (ap not h.0, h.1)

finite_of : (x : Float) (s : Bool) (a c : ℕ) → HasValue x s a c → T (finite x)
finite_of nan s a c h = h
finite_of (inf t) s a c h = h
finite_of (fin t m e) s a c h = tt

-- a float above zero is a number of the format, in units
in_units : (x : Float) → T (fits binary64 x) → T (positive x) → HasValue x false (grid binary64 (num x) (den x)) (2 ^ 1074)
in_units nan held above = absurd above
in_units (inf s) held above = absurd above
in_units (fin true m e) held above = absurd above
in_units (fin false m e) held above =
    let is = own_round binary64 false m e held in
    subst (λ (x : Float). HasValue x false (grid binary64 (m * up e) (down e)) (2 ^ 1074)) is
    (signed_round binary64 false (m * up e) (down e) (round_under binary64 (m * up e) (down e) (subst (λ (x : Float). T (finite x)) (sym is) tt)))

units_are : (x : Float) → T (fits binary64 x) → T (positive x) → units_of x ≡ grid binary64 (num x) (den x)
units_are x held above = counts_units x (grid binary64 (num x) (den x)) (in_units x held above)

-- v / root v, and −(v / root v)·(v / root v)
abbrev quotient : Float → Float
quotient v = v ⊘ root_of v

abbrev taken : Float → Float
taken v = neg (quotient v) ⊗ quotient v

-- c is finite, and in size 2 ^ -50 of v at most: exactly, in units of 2 ^ -1074, and as a program tests it
pub record Crumb (c v : Float) : Type 0 where
  pub finite : T (finite c)
  pub small : 2 ^ 50 * units_of (abs_of c) ≤ units_of v
  pub tested : T (le (abs_of c) (fin false 1 (minus 0 50) ⊗ v))

module _ (v : Float) (held : T (fits binary64 v)) (above : T (positive v)) (most : T (le v (fin false 1 (pos 1023)))) where
  abbrev v_units : ℕ
  v_units = units_of v

  -- the root of v is that of w units
  abbrev w : ℕ
  w = v_units * 2 ^ 1074

  abbrev quotient_units : ℕ
  quotient_units = grid binary64 v_units (root_units w)

  abbrev taken_units : ℕ
  taken_units = grid binary64 (quotient_units * quotient_units) (2 ^ 1074 * 2 ^ 1074)

  value : HasValue v false v_units (2 ^ 1074)
  value = subst (λ (n : ℕ). HasValue v false n (2 ^ 1074)) (sym (units_are v held above)) (in_units v held above)

  highest : v_units ≤ 2 ^ 2097
  highest = le_trans (le_of_eq (sym (mul-one v_units))) (values_of_le v (fin false 1 (pos 1023)) v_units (2 ^ 1074) (2 ^ 1023) 1 above tt value (refl, refl) most)

  w_least : 2 ^ 106 ≤ w
  w_least = le_trans (lit≤ tt) (mul-le-mul_right (2 ^ 1074) (value_pos v v_units (2 ^ 1074) above (lit< tt) value))

  w_most : w ≤ 2 ^ 3171
  w_most = mul-le-mul_right (2 ^ 1074) highest

  root : NearRoot (root_units w) w
  root = root_near w w_least

  quotient_square : Near (2 ^ 51 - 1) (quotient_units * quotient_units) w
  quotient_square = square_near (root_units w) quotient_units w root (round_near binary64 v_units (root_units w) root.some root.normal)

  quotient_value : HasValue (quotient v) false quotient_units (2 ^ 1074)
  quotient_value =
      let rooted : HasValue (root_of v) false (root_units w) (2 ^ 1074) = subst (λ (x : Float). HasValue x false (root_units w) (2 ^ 1074)) (root_rounded (record { above = above; units = refl })) (rounded_value w w_least w_most) in
      subst (λ (x : Float). HasValue x false quotient_units (2 ^ 1074)) (sym (quotient_of binary64 v (root_of v) false false v_units (root_units w) (2 ^ 1074) (lit< tt) root.some value rooted))
      (signed_round binary64 false v_units (root_units w) (no_overflow quotient_units w (twice (quotient_units * quotient_units) w quotient_square) w_most))

  taken_near : Near (2 ^ 50) taken_units v_units
  taken_near =
      ⊎_elim
      (taken_whole quotient_units taken_units v_units (2 ^ 1074) (lit< tt) quotient_square)
      (taken_moved quotient_units taken_units v_units (2 ^ 1074) (lit< tt) quotient_square)
      (round_off binary64 (quotient_units * quotient_units) (2 ^ 1074 * 2 ^ 1074) (lit< tt))

  taken_value : HasValue (taken v) true taken_units (2 ^ 1074)
  taken_value =
      subst (λ (x : Float). HasValue x true taken_units (2 ^ 1074))
      (sym (product_of_law binary64 (neg (quotient v)) (quotient v) true false quotient_units (2 ^ 1074) quotient_units (2 ^ 1074) (lit< tt) (lit< tt) (neg_value (quotient v) quotient_units (2 ^ 1074) quotient_value) quotient_value))
      (signed_round binary64 true (quotient_units * quotient_units) (2 ^ 1074 * 2 ^ 1074) small)
    where
      twice : (t n : ℕ) → Near (2 ^ 50) t n → 2 * t ≤ 3 * n
      twice t n near = omega arith

      small : taken_units < overflow binary64
      small = lt_of_mul-lt-mul_left 2 (lt_of_le_of_lt (le_trans (twice taken_units v_units taken_near) (mul-le-mul_left 3 highest)) (lit< tt))

  -- the crumb's size in units
  abbrev gap : ℕ
  gap = distance v_units taken_units

  gap_small : 2 ^ 50 * gap ≤ v_units
  gap_small = within taken_units v_units taken_near
    where
      within : (t n : ℕ) → Near (2 ^ 50) t n → 2 ^ 50 * distance n t ≤ n
      within t n near = omega arith

  exact : (s : Bool) → HasValue (round binary64 s gap (2 ^ 1074)) s gap (2 ^ 1074)
  exact s =
      subst (λ (n : ℕ). 4 * distance n taken_units ≤ n → n < overflow binary64 → HasValue (round binary64 s (distance n taken_units) (2 ^ 1074)) s (distance n taken_units) (2 ^ 1074)) (sym (units_are v held above))
      (exact_difference binary64 s _ (drop 53 (num v * 2 ^ 1074) (den v)) _ (drop 53 (quotient_units * quotient_units * 2 ^ 1074) (2 ^ 1074 * 2 ^ 1074))
      (kept_most binary64 (num v) (den v)) (kept_most binary64 (quotient_units * quotient_units) (2 ^ 1074 * 2 ^ 1074)))
      (quarter gap v_units gap_small) (lt_of_le_of_lt highest (lit< tt))
    where
      quarter : (d n : ℕ) → 2 ^ 50 * d ≤ n → 4 * d ≤ n
      quarter d n h = omega arith

  crumb_is : remainder crate_rule v v ≡ round binary64 (ltb v_units taken_units) gap (2 ^ 1074)
  unfolding remainder
  crumb_is = difference_of binary64 v (taken v) v_units taken_units (2 ^ 1074) (lit< tt) value taken_value

  crumb_size : abs_of (remainder crate_rule v v) ≡ round binary64 false gap (2 ^ 1074)
  crumb_size = ap abs_of crumb_is ∙ round_abs binary64 (ltb v_units taken_units) gap (2 ^ 1074)

  share_is : fin false 1 (minus 0 50) ⊗ v ≡ round binary64 false (1 * v_units) (2 ^ 50 * 2 ^ 1074)
  share_is = product_of_law binary64 (fin false 1 (minus 0 50)) v false false 1 (2 ^ 50) v_units (2 ^ 1074) (lit< tt) (lit< tt) (refl, refl) value

  pub crumb_small : Crumb (remainder crate_rule v v) v
  crumb_small = record {
    finite = subst (λ (x : Float). T (finite x)) (sym crumb_is) (finite_of (round binary64 (ltb v_units taken_units) gap (2 ^ 1074)) (ltb v_units taken_units) gap (2 ^ 1074) (exact (ltb v_units taken_units)));
    small = subst (λ (n : ℕ). 2 ^ 50 * n ≤ v_units) (sym (ap units_of crumb_size ∙ counts_units (round binary64 false gap (2 ^ 1074)) gap (exact false))) gap_small;
    tested =
        subst (λ (x : Float). T (le x (fin false 1 (minus 0 50) ⊗ v))) (sym crumb_size)
        (subst (λ (x : Float). T (le (round binary64 false gap (2 ^ 1074)) x)) (sym share_is)
        (round_mono binary64 gap (2 ^ 1074) (1 * v_units) (2 ^ 50 * 2 ^ 1074) (lit< tt) (lit< tt) (scaled gap v_units (2 ^ 1074) gap_small)));
  }
    where
      scaled : (d n u : ℕ) → 2 ^ 50 * d ≤ n → d * (2 ^ 50 * u) ≤ 1 * n * u
      scaled d n u h = let wide : 2 ^ 50 * d * u ≤ n * u = mul-le-mul_right u h in omega arith
