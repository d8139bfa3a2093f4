-- The second statement pins the root: two floats that meet it for one x are equal.
use mathlib.Core.Path.{◌≡◌, sym, ap, ◌∙◌, subst}
use mathlib.Core.Logic.{◌⊎◌, inl, inr}
use Prim.Native.Nat.{ℕ, zero, suc, ◌+◌, ◌-◌, ◌*◌, ◌^◌, ◌≤◌, ◌<◌}
use native.Mathlib.Nat.{eq-or-lt_of_le}
use native.Mathlib.Omega.{arith}
use mathlib.Core.Bool.{true, false}
use lib.Dec.{T}
use lib.Ieee.{Float, nan, inf, fin, binary64, fits, of_bits, to_bits}
use lib.Ieee.Bits.{of_bits-to_bits}
use Rattle.leaf.specs.Root.{units_of}
use Rattle.leaf.specs.Nearest.{Nearest, IsRoot, square_of}
use Rattle.leaf.proofs.Cut.{square_mono}
use Rattle.leaf.proofs.Patterns.{positive_bits}
use Rattle.leaf.proofs.Neighbours.{less_or_not, size_at, size_mono}

-- the midpoint above a float is at most the midpoint below any later one
midpoints : (b c : ℕ) → b < c → c < 0x7ff0_0000_0000_0000 → size_at b + size_at (b + 1) ≤ size_at (c - 1) + size_at c
midpoints b c l h =
    let p : size_at b ≤ size_at (c - 1) = subst (λ (n : ℕ). size_at b ≤ size_at n) here (size_mono (c - 1 - b) b (omega arith)) in
    let q : size_at (b + 1) ≤ size_at c = subst (λ (n : ℕ). size_at (b + 1) ≤ size_at n) next (size_mono (c - (b + 1)) (b + 1) (omega arith)) in
    omega arith
  where
    here : b + (c - 1 - b) ≡ c - 1
    here = omega arith

    next : b + 1 + (c - (b + 1)) ≡ c
    next = omega arith

size_of : (r : Float) → T (fits binary64 r) → units_of r ≡ size_at (to_bits binary64 r)
size_of r f = ap units_of (sym (of_bits-to_bits binary64 r f))

not_below : (x r t : Float) → Nearest x r → Nearest x t → to_bits binary64 r < to_bits binary64 t → ⊥
not_below x r t m n l =
    let b = to_bits binary64 r in
    let c = to_bits binary64 t in
    apart (4 * (units_of x * 2 ^ 1074)) (square_of (size_at b + size_at (b + 1))) (square_of (size_at (c - 1) + size_at c))
    (subst (λ (k : ℕ). 4 * (units_of x * 2 ^ 1074) < square_of (k + size_at (b + 1))) (size_of r m.fits) m.upper)
    (square_mono (size_at b + size_at (b + 1)) (size_at (c - 1) + size_at c) (midpoints b c l (positive_bits t n.fits n.positive).1))
    (subst (λ (k : ℕ). square_of (size_at (c - 1) + k) < 4 * (units_of x * 2 ^ 1074)) (size_of t n.fits) n.lower)
  where
    apart : (v p q : ℕ) → v < p → p ≤ q → q < v → ⊥
    apart v p q a b c = omega arith

pub nearest_once : (x r t : Float) → Nearest x r → Nearest x t → r ≡ t
nearest_once x r t m n = go (less_or_not (to_bits binary64 r) (to_bits binary64 t))
  where
    same : (to_bits binary64 t ≡ to_bits binary64 r) ⊎ (to_bits binary64 t < to_bits binary64 r) → r ≡ t
    same (inl e) = sym (of_bits-to_bits binary64 r m.fits) ∙ ap (of_bits binary64) (sym e) ∙ of_bits-to_bits binary64 t n.fits
    same (inr l) = absurd (not_below x t r n m l)

    go : (to_bits binary64 r < to_bits binary64 t) ⊎ (to_bits binary64 t ≤ to_bits binary64 r) → r ≡ t
    go (inl l) = absurd (not_below x r t m n l)
    go (inr l) = same (eq-or-lt_of_le l)

pub root_once : (x r t : Float) → IsRoot x r → IsRoot x t → r ≡ t
unfolding IsRoot
root_once nan r t p q = p ∙ sym q
root_once (inf true) r t p q = p ∙ sym q
root_once (inf false) r t p q = p ∙ sym q
root_once (fin true zero e) r t p q = p ∙ sym q
root_once (fin false zero e) r t p q = p ∙ sym q
root_once (fin true (suc m) e) r t p q = p ∙ sym q
root_once (fin false (suc m) e) r t p q = nearest_once (fin false (suc m) e) r t p q
