-- Floats as fractions, over the format: how far rounding moves one, and the operations by fractions that their operands equal. Assumes nothing.
use mathlib.Core.Path.{◌≡◌, refl, sym, ap, ◌∙◌, subst}
use mathlib.Core.Bool.{Bool, true, false, true≢false, not, cond}
use mathlib.Core.Logic.{◌⊎◌, inl, inr, ⊎_elim}
use Prim.Native.Nat.{ℕ, zero, suc, ◌+◌, ◌-◌, ◌*◌, ◌/◌, ◌%◌, ◌^◌, ◌≤◌, ◌<◌, compare, Ordering}
use native.Mathlib.Nat.{eq-or-lt_of_le, le_trans, le_of_eq, le_of_lt, mul-one, mul_assoc, mul_comm, mul_left_comm, mul_right_comm, mul-sub, mul-le-mul_right, mul-le-mul_left, mul-lt-mul_of_pos_right, lt_of_mul-lt-mul_right, mul-pos, mul-mul-mul_comm, le_of_mul-le-mul_right, eq_of_mul-eq-mul_right, div-add-mod', mod-lt, div-div-eq-div-mul, le-div_iff_mul-le, pow-suc}
use native.Mathlib.Omega.{arith}
use lib.Dec.{T, ltb, is_le, compare_is_eq, leb→le, nleb→lt, eqb→eq}
use lib.Pow.{pow-add, pow_pos}
use borrow.Author.Tests.{lt-ltb, le-ltb, ne_eqb}
use lib.Ieee.{Float, nan, inf, fin, Format, prec, emax, low, up, down, unlike, nearest, odd, units, round, sum, add, mul, div}
use lib.Ieee.Digits.{size_reaches}
use lib.Ieee.Fits.{down_pos, kept-lt, nearest-le, round_is, two}
use lib.Ieee.Exact.{HasValue, units_val, round_exact}
use lib.Ieee.Nearest.{closest}
use lib.Ieee.Order.{drop, kept}
use lib.Ieee.Scale.{grid, overflow, round_same}
use lib.Ieee.Positive.{first_pos}
use Rattle.leaf.specs.Abs.{abs_of}
use Rattle.leaf.proofs.Neighbours.{less_or_not}

-- ---- how far rounding moves a fraction

-- x is y up to a share of 1 / d
pub record Near (d x y : ℕ) : Type 0 where
  pub above : d * x ≤ d * y + y
  pub under : d * y ≤ d * x + y

-- n is a / b up to a half
pub record WithinHalf (a b n : ℕ) : Type 0 where
  pub above : 2 * (n * b) ≤ 2 * a + b
  pub under : 2 * a ≤ 2 * (n * b) + b

half_of : (a b q r n : ℕ) → q * b + r ≡ a → r < b → q ≤ n → n ≤ q + 1 → (n ≡ q → r * 2 ≤ b) → (n ≡ q + 1 → b ≤ r * 2) → WithinHalf a b n
half_of a b q r n whole rest least most down up = go (eq-or-lt_of_le least)
  where
    go : (q ≡ n) ⊎ (q < n) → WithinHalf a b n
    go (inl e) = let s : r * 2 ≤ b = down (sym e) in subst (WithinHalf a b) e (record { above = omega arith; under = omega arith })
    go (inr l) = let e : q + 1 ≡ n = omega arith in let s : b ≤ r * 2 = up (sym e) in subst (WithinHalf a b) e (record { above = omega arith; under = omega arith })

closest_half : (a b : ℕ) → 0 < b → WithinHalf a b (closest a b)
closest_half a b B = go (compare (a % b * 2) b) (leb→le (a % b * 2) b) (nleb→lt (a % b * 2) b) (eqb→eq (a % b * 2) b)
  where
    go : (o : Ordering) → (T (is_le o) → a % b * 2 ≤ b) → (T (not (is_le o)) → b < a % b * 2) → (T (compare_is_eq o) → a % b * 2 ≡ b) → WithinHalf a b (nearest (a / b) o)
    go Ordering.lt small large tie = half_of a b (a / b) (a % b) (a / b) (div-add-mod' a b) (mod-lt a B) (omega arith) (omega arith) (λ e. small tt) (λ e. absurd (omega arith))
    go Ordering.eq small large tie =
        half_of a b (a / b) (a % b) (a / b + a / b % 2) (div-add-mod' a b) (mod-lt a B) (omega arith) (omega arith) (λ e. small tt) (λ e. le_of_eq (sym (tie tt)))
    go Ordering.gt small large tie =
        half_of a b (a / b) (a % b) (suc (a / b)) (div-add-mod' a b) (mod-lt a B) (omega arith) (omega arith) (λ e. absurd (omega arith)) (λ e. le_of_lt (large tt))

near_of : (j q e n : ℕ) → WithinHalf n e q → j * e ≤ n → Near (j * 2) (q * e) n
near_of j q e n h small =
    let more : j * (2 * (q * e)) ≤ j * (2 * n + e) = mul-le-mul_left j h.above in
    let less : j * (2 * n) ≤ j * (2 * (q * e) + e) = mul-le-mul_left j h.under in
    record { above = omega arith; under = omega arith }

-- a / c is n / c units, and rounds to `grid` units
module _ (f : Format) (a c : ℕ) (C : 0 < c) where
  abbrev n : ℕ
  n = a * 2 ^ low f

  abbrev half : ℕ
  half = 2 ^ (prec f - 1)

  power : half * 2 ≡ 2 ^ prec f
  power = let p : suc (prec f - 1) ≡ prec f = omega (arith, two f) in sym (pow-suc 2 (prec f - 1)) ∙ ap (λ (i : ℕ). 2 ^ i) p

  -- to the nearest whole number, or moved by a share of 2 ^ -prec at most
  pub round_off : WithinHalf n c (grid f a c) ⊎ Near (2 ^ prec f) (grid f a c * c) n
  round_off = go (drop (prec f) n c) refl
    where
      at : ℕ → ℕ
      at k = closest n (c * 2 ^ k)

      half_at : (k : ℕ) → WithinHalf n (c * 2 ^ k) (at k)
      half_at k = closest_half n (c * 2 ^ k) (mul-pos C (pow_pos k))

      go : (k : ℕ) → drop (prec f) n c ≡ k → WithinHalf n c (grid f a c) ⊎ Near (2 ^ prec f) (grid f a c * c) n
      go zero e = inl (subst (λ (k : ℕ). WithinHalf n c (at k * 2 ^ k)) (sym e) (subst (WithinHalf n c) (sym (mul-one (at 0))) (subst (λ (u : ℕ). WithinHalf n u (at 0)) (mul-one c) (half_at 0))))
      go (suc k) e =
          let reach : 2 ^ (prec f - 1 + suc k) * c ≤ n = (le-div_iff_mul-le C).0 (size_reaches (n / c) (prec f - 1 + suc k) (omega (arith, two f))) in
          let split : half * (c * 2 ^ suc k) ≡ 2 ^ (prec f - 1 + suc k) * c = mul_left_comm half c (2 ^ suc k) ∙ mul_comm c (half * 2 ^ suc k) ∙ ap (λ (x : ℕ). x * c) (sym (pow-add 2 (prec f - 1) (suc k))) in
          let near : Near (half * 2) (at (suc k) * (c * 2 ^ suc k)) n = near_of half (at (suc k)) (c * 2 ^ suc k) n (half_at (suc k)) (le_trans (le_of_eq split) reach) in
          let turned : at (suc k) * (c * 2 ^ suc k) ≡ at (suc k) * 2 ^ suc k * c = omega arith in
          inr (subst (λ (k : ℕ). Near (2 ^ prec f) (at k * 2 ^ k * c) n) (sym e) (subst (λ (d : ℕ). Near d (at (suc k) * 2 ^ suc k * c) n) power (subst (λ (x : ℕ). Near (half * 2) x n) turned near)))

  -- a normal number: the second
  pub round_near : half * c ≤ n → Near (2 ^ prec f) (grid f a c * c) n
  round_near normal = ⊎_elim (λ whole. subst (λ (d : ℕ). Near d (grid f a c * c) n) power (near_of half (grid f a c) c n whole normal)) (λ near. near) round_off

-- what is kept is 2 ^ prec at most
pub kept_most : (f : Format) (a c : ℕ) → kept (prec f) (a * 2 ^ low f) c ≤ 2 ^ prec f
kept_most f a c =
    let n = a * 2 ^ low f in
    let k = drop (prec f) n c in
    le_trans (nearest-le (n / (c * 2 ^ k)) (compare (n % (c * 2 ^ k) * 2) (c * 2 ^ k))) (subst (λ (x : ℕ). x < 2 ^ prec f) (div-div-eq-div-mul n c (2 ^ k)) (kept-lt (prec f) (n / c)))

-- ---- the operations, by fractions that their operands equal

pub signed_round : (f : Format) (s : Bool) (a c : ℕ) → grid f a c < overflow f → HasValue (round f s a c) s (grid f a c) (2 ^ low f)
signed_round f s a c h = subst (λ (x : Float). HasValue x s (grid f a c) (2 ^ low f)) (sym (round_is f s a c)) (units_val f s (kept (prec f) (a * 2 ^ low f) c) (drop (prec f) (a * 2 ^ low f) c) h)

pub product_of_law : (f : Format) (x y : Float) (s t : Bool) (a c b d : ℕ) → 0 < c → 0 < d → HasValue x s a c → HasValue y t b d → mul f x y ≡ round f (unlike s t) (a * b) (c * d)
unfolding mul
product_of_law f nan y s t a c b d C D h k = absurd h
product_of_law f (inf u) y s t a c b d C D h k = absurd h
product_of_law f (fin u m e) nan s t a c b d C D h k = absurd k
product_of_law f (fin u m e) (inf w) s t a c b d C D h k = absurd k
product_of_law f (fin u m e) (fin w n g) s t a c b d C D h k =
    ap (λ (z : Bool). round f z (m * up e * (n * up g)) (down e * down g)) (ap (λ (z : Bool). unlike z w) h.0 ∙ ap (unlike s) k.0)
    ∙ round_same f (unlike s t) (m * up e * (n * up g)) (down e * down g) (a * b) (c * d) (mul-pos (down_pos e) (down_pos g)) (mul-pos C D)
    (mul-mul-mul_comm (m * up e) (n * up g) c d ∙ ap (λ (z : ℕ). z * (n * up g * d)) h.1 ∙ ap (λ (z : ℕ). a * down e * z) k.1 ∙ mul-mul-mul_comm a (down e) b (down g))

pub quotient_of : (f : Format) (x y : Float) (s t : Bool) (a b c : ℕ) → 0 < c → 0 < b → HasValue x s a c → HasValue y t b c → div f x y ≡ round f (unlike s t) a b
unfolding div
quotient_of f nan y s t a b c C B h k = absurd h
quotient_of f (inf u) y s t a b c C B h k = absurd h
quotient_of f (fin u m e) nan s t a b c C B h k = absurd k
quotient_of f (fin u m e) (inf w) s t a b c C B h k = absurd k
quotient_of f (fin u m e) (fin w n g) s t a b c C B h k =
    let above : 0 < n * up g = first_pos (n * up g) c (subst (λ (z : ℕ). 0 < z) (sym k.1) (mul-pos B (down_pos g))) in
    let not_zero : 0 < n = first_pos n (up g) above in
    rw (ne_eqb n 0 (λ e. omega arith))
    (ap (λ (z : Bool). round f z (m * up e * down g) (n * up g * down e)) (ap (λ (z : Bool). unlike z w) h.0 ∙ ap (unlike s) k.0)
    ∙ round_same f (unlike s t) (m * up e * down g) (n * up g * down e) a b (mul-pos above (down_pos e)) B (cross (m * up e) (down e) (n * up g) (down g) h.1 k.1))
  where
    cross : (x z y w : ℕ) → x * c ≡ a * z → y * c ≡ b * w → x * w * b ≡ a * (y * z)
    cross x z y w p q =
        let i : x * c * (b * w) ≡ a * z * (y * c) = ap (λ (l : ℕ). x * c * l) (sym q) ∙ ap (λ (l : ℕ). l * (y * c)) p in
        eq_of_mul-eq-mul_right c C (x * w * b) (a * (y * z)) (omega arith)

-- how far apart two numbers are
abbrev pub distance : ℕ → ℕ → ℕ
distance a b = a - b + (b - a)

distance_scales : (x y u : ℕ) → distance (x * u) (y * u) ≡ distance x y * u
distance_scales x y u =
    let a : u * (x - y) ≡ u * x - u * y = mul-sub u x y in
    let b : u * (y - x) ≡ u * y - u * x = mul-sub u y x in
    omega arith

-- x / z is a / c and y / z is b / c
sum_of : (f : Format) (x y z a b c : ℕ) → 0 < z → 0 < c → x * c ≡ a * z → y * c ≡ b * z → sum f false x true y z ≡ round f (ltb a b) (distance a b) c
unfolding sum
sum_of f x y z a b c Z C left right = go (less_or_not a b)
  where
    same : distance x y * c ≡ distance a b * z
    same = sym (distance_scales x y c) ∙ ap (λ (i : ℕ). distance i (y * c)) left ∙ ap (λ (i : ℕ). distance (a * z) i) right ∙ distance_scales a b z

    go : (a < b) ⊎ (b ≤ a) → cond (ltb x y) (round f true (y - x) z) (round f false (x - y) z) ≡ round f (ltb a b) (distance a b) c
    go (inl l) =
        let wide : a * z < b * z = mul-lt-mul_of_pos_right l Z in
        let less : x < y = lt_of_mul-lt-mul_right c (omega arith) in
        let all : distance x y ≡ y - x = omega arith in
        rw (lt-ltb x y less, lt-ltb a b l) (round_same f true (y - x) z (distance a b) c Z C (ap (λ (i : ℕ). i * c) (sym all) ∙ same))
    go (inr l) =
        let wide : b * z ≤ a * z = mul-le-mul_right z l in
        let less : y ≤ x = le_of_mul-le-mul_right {k = c} (omega arith) C in
        let all : distance x y ≡ x - y = omega arith in
        rw (le-ltb x y less, le-ltb a b l) (round_same f false (x - y) z (distance a b) c Z C (ap (λ (i : ℕ). i * c) (sym all) ∙ same))

pub difference_of : (f : Format) (x y : Float) (a b c : ℕ) → 0 < c → HasValue x false a c → HasValue y true b c → add f x y ≡ round f (ltb a b) (distance a b) c
unfolding add
difference_of f nan y a b c C h k = absurd h
difference_of f (inf s) y a b c C h k = absurd h
difference_of f (fin true m e) y a b c C h k = absurd (true≢false h.0)
difference_of f (fin false m e) nan a b c C h k = absurd k
difference_of f (fin false m e) (inf t) a b c C h k = absurd k
difference_of f (fin false m e) (fin false n g) a b c C h k = absurd (true≢false (sym k.0))
difference_of f (fin false m e) (fin true n g) a b c C h k =
    sum_of f (m * up e * down g) (n * up g * down e) (down e * down g) a b c (mul-pos (down_pos e) (down_pos g)) C
    (mul_right_comm (m * up e) (down g) c ∙ ap (λ (i : ℕ). i * down g) h.1 ∙ mul_assoc a (down e) (down g))
    (mul_right_comm (n * up g) (down e) c ∙ ap (λ (i : ℕ). i * down e) k.1 ∙ mul_right_comm b (down g) (down e) ∙ mul_assoc b (down e) (down g))

-- the difference of two numbers of the format, a quarter of the first at most, is exact
module _ (f : Format) (s : Bool) where
  abbrev Exactly : ℕ → Type 0
  Exactly n = HasValue (round f s n (2 ^ low f)) s n (2 ^ low f)

  exact_at : (x y j : ℕ) → (x ≤ 2 ^ prec f) ⊎ (y ≤ 2 ^ prec f) → 4 * distance (x * 2 ^ j) (y * 2 ^ j) ≤ x * 2 ^ j → x * 2 ^ j < overflow f → Exactly (distance (x * 2 ^ j) (y * 2 ^ j))
  exact_at x y j small quarter fine =
      let is : distance (x * 2 ^ j) (y * 2 ^ j) ≡ distance x y * 2 ^ j = distance_scales x y (2 ^ j) in
      let near : 4 * distance x y ≤ x = le_of_mul-le-mul_right {k = 2 ^ j} (omega arith) (pow_pos j) in
      round_exact f s (distance (x * 2 ^ j) (y * 2 ^ j)) (2 ^ low f) (distance x y) j (pow_pos (low f)) (few x y (2 ^ prec f) (pow_pos (prec f)) small near)
      (omega arith) (ap (λ (n : ℕ). n * 2 ^ low f) is)
    where
      few : (x y p : ℕ) → 0 < p → (x ≤ p) ⊎ (y ≤ p) → 4 * distance x y ≤ x → distance x y < p
      few x y p P (inl h) near = omega arith
      few x y p P (inr h) near = omega arith

  pub exact_difference : (x i y k : ℕ) → x ≤ 2 ^ prec f → y ≤ 2 ^ prec f → 4 * distance (x * 2 ^ i) (y * 2 ^ k) ≤ x * 2 ^ i → x * 2 ^ i < overflow f → Exactly (distance (x * 2 ^ i) (y * 2 ^ k))
  exact_difference x i y k X Y quarter fine = go (less_or_not k i)
    where
      lifted : (z i k : ℕ) → k ≤ i → z * 2 ^ (i - k) * 2 ^ k ≡ z * 2 ^ i
      lifted z i k h = mul_assoc z (2 ^ (i - k)) (2 ^ k) ∙ ap (λ (n : ℕ). z * n) (sym (pow-add 2 (i - k) k) ∙ ap (λ (n : ℕ). 2 ^ n) (omega arith))

      Goal : ℕ → ℕ → Type 0
      Goal a b = 4 * distance a b ≤ a → a < overflow f → Exactly (distance a b)

      go : (k < i) ⊎ (i ≤ k) → Exactly (distance (x * 2 ^ i) (y * 2 ^ k))
      go (inl l) = subst (λ (n : ℕ). Goal n (y * 2 ^ k)) (lifted x i k (le_of_lt l)) (exact_at (x * 2 ^ (i - k)) y k (inr Y)) quarter fine
      go (inr l) = subst (λ (n : ℕ). Goal (x * 2 ^ i) n) (lifted y k i l) (exact_at x (y * 2 ^ (k - i)) i (inl X)) quarter fine

-- both signs round alike
units_abs : (f : Format) (s : Bool) (n k : ℕ) → abs_of (units f s n k) ≡ units f false n k
unfolding abs_of odd units
units_abs f s n k = pick (ltb (n * 2 ^ k) (2 ^ (low f + suc (emax f))))
  where
    odd_abs : (m : ℕ) → abs_of (odd (suc (prec f)) s m k (low f)) ≡ odd (suc (prec f)) false m k (low f)
    odd_abs zero = refl
    odd_abs (suc m) = refl

    pick : (b : Bool) → abs_of (cond b (odd (suc (prec f)) s n k (low f)) (inf s)) ≡ cond b (odd (suc (prec f)) false n k (low f)) (inf false)
    pick true = odd_abs n
    pick false = refl

pub round_abs : (f : Format) (s : Bool) (a c : ℕ) → abs_of (round f s a c) ≡ round f false a c
round_abs f s a c = ap abs_of (round_is f s a c) ∙ units_abs f s (kept (prec f) (a * 2 ^ low f) c) (drop (prec f) (a * 2 ^ low f) c) ∙ sym (round_is f false a c)
