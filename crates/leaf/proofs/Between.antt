-- The cut root of 54 digits, rounded by its last one: where the two midpoints beside it lie.
use mathlib.Core.Path.{◌≡◌, sym, ap, ◌∙◌, subst}
use mathlib.Core.Logic.{◌⊎◌, inl, inr}
use Prim.Native.Nat.{ℕ, ◌+◌, ◌*◌, ◌/◌, ◌^◌, ◌≤◌, ◌<◌}
use native.Mathlib.Nat.{le_trans, lt_of_lt_of_le, lt_of_le_of_lt, le_of_eq, mul-mul-mul_comm, mul-le-mul_right, mul-lt-mul_of_pos_right, mul-pos}
use native.Mathlib.Omega.{arith}
use Rattle.leaf.specs.inner.Cut.{CutRoot}
use Rattle.leaf.proofs.Cut.{square_mono}
use Rattle.leaf.proofs.Neighbours.{less_or_not}

-- the midpoint above: 2q + 1 where the root has the digits s
over : (w s q : ℕ) → CutRoot w s → (s + 1) / 2 ≡ q → w < (2 * q + 1) * (2 * q + 1)
over w s q c e = lt_of_lt_of_le c.high (square_mono (s + 1) (2 * q + 1) (omega arith))

-- The midpoint below: 2q - 1, which is 2t + 1. The number is even, so it is no square of an odd number.
under : (n s t : ℕ) → CutRoot (n * 2 ^ 54) s → (s + 1) / 2 ≡ t + 1 → (2 * t + 1) * (2 * t + 1) < n * 2 ^ 54
under n s t c e = go (less_or_not s (2 * t + 2))
  where
    go : (s < 2 * t + 2) ⊎ (2 * t + 2 ≤ s) → (2 * t + 1) * (2 * t + 1) < n * 2 ^ 54
    go (inl l) =
        let h : s ≡ 2 * t + 1 = omega arith in
        let f : (2 * t + 1) * (2 * t + 1) ≤ n * 2 ^ 54 = subst (λ (x : ℕ). x * x ≤ n * 2 ^ 54) h c.low in
        omega arith
    go (inr l) =
        let f : (2 * t + 1 + 1) * (2 * t + 1 + 1) ≤ s * s = square_mono (2 * t + 1 + 1) s (omega arith) in
        omega (arith, c.low)

-- at a scale of p
scaled : (a p : ℕ) → a * p * (a * p) ≡ a * a * (p * p)
scaled a p = mul-mul-mul_comm a p a p

pub below_after : (w s q p here next : ℕ) → 0 < p → CutRoot w s → (s + 1) / 2 ≡ q → here ≡ q * p → (q + 1) * p ≤ next
    → w * (p * p) < (here + next) * (here + next)
below_after w s q p here next P c e h k =
    lt_of_lt_of_le (mul-lt-mul_of_pos_right (over w s q c e) (mul-pos P P))
    (le_trans (le_of_eq (sym (scaled (2 * q + 1) p))) (square_mono ((2 * q + 1) * p) (here + next) reach))
  where
    reach : (2 * q + 1) * p ≤ here + next
    reach = omega arith

-- a whole step below, where t is q - 1
pub above_before : (n s t p here last : ℕ) → 0 < p → CutRoot (n * 2 ^ 54) s → (s + 1) / 2 ≡ t + 1 → here ≡ (t + 1) * p → last ≡ t * p
    → (last + here) * (last + here) < n * 2 ^ 54 * (p * p)
above_before n s t p here last P c e h k =
    lt_of_le_of_lt (le_of_eq (ap (λ (x : ℕ). x * x) reach ∙ scaled (2 * t + 1) p)) (mul-lt-mul_of_pos_right (under n s t c e) (mul-pos P P))
  where
    reach : last + here ≡ (2 * t + 1) * p
    reach = omega arith

-- less than a whole step below, at a power of two: there s is 2q itself
pub above_half : (w s q p here last : ℕ) → 0 < p → CutRoot w s → 2 * q ≤ s → here ≡ q * p → last < q * p
    → (last + here) * (last + here) < w * (p * p)
above_half w s q p here last P c g h k =
    lt_of_lt_of_le (square_less (last + here) (2 * q * p) less)
    (le_trans (le_of_eq (scaled (2 * q) p)) (mul-le-mul_right (p * p) (le_trans (square_mono (2 * q) s g) c.low)))
  where
    square_less : (a b : ℕ) → a < b → a * a < b * b
    square_less a b l =
        let f : (a + 1) * (a + 1) ≤ b * b = square_mono (a + 1) b (omega arith) in
        omega arith

    less : last + here < 2 * q * p
    less = omega arith
