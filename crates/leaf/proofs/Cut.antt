-- A whole number has one cut root, and `digits` is it.
use mathlib.Core.Path.{◌≡◌, subst}
use Prim.Native.Nat.{ℕ, zero, suc, ◌+◌, ◌*◌, ◌/◌, ◌^◌, ◌≤◌, ◌<◌}
use native.Mathlib.Nat.{lt_of_not-le, mul-le-mul, pow-suc}
use native.Mathlib.Omega.{arith}
use mathlib.Core.Bool.{Bool, true, false, not, cond}
use lib.Dec.{T, leb, leb→le, nleb→lt}
use Rattle.leaf.specs.Root.{root_digits}
use Rattle.leaf.specs.inner.Cut.{CutRoot}

pub square_mono : (s t : ℕ) → s ≤ t → s * s ≤ t * t
square_mono s t h = mul-le-mul h h

at_most : (v s t : ℕ) → CutRoot v s → CutRoot v t → s < t + 1
at_most v s t a b =
    lt_of_not-le
    (λ (g : t + 1 ≤ s).
    let m : (t + 1) * (t + 1) ≤ s * s = square_mono (t + 1) s g in
    omega (arith, a.low, b.high))

pub cut_once : (v s t : ℕ) → CutRoot v s → CutRoot v t → s ≡ t
cut_once v s t a b =
    let p : s < t + 1 = at_most v s t a b in
    let q : t < s + 1 = at_most v t s b a in
    omega arith

-- one digit more: the root of v / 4, doubled, or the next number
one_more : (v r : ℕ) → CutRoot (v / 4) r → CutRoot v (cond (leb ((2 * r + 1) * (2 * r + 1)) v) (2 * r + 1) (2 * r))
one_more v r c = go (leb ((2 * r + 1) * (2 * r + 1)) v) (leb→le ((2 * r + 1) * (2 * r + 1)) v) (nleb→lt ((2 * r + 1) * (2 * r + 1)) v)
  where
    go : (b : Bool) → (T b → (2 * r + 1) * (2 * r + 1) ≤ v) → (T (not b) → v < (2 * r + 1) * (2 * r + 1)) → CutRoot v (cond b (2 * r + 1) (2 * r))
    go true y n = record { low = y tt; high = omega arith }
    go false y n = record { low = omega arith; high = n tt }

pub digits_cut : (d v : ℕ) → v < 4 ^ d → CutRoot v (root_digits d v)
unfolding root_digits
digits_cut zero v h = record { low = omega arith; high = h }
digits_cut (suc d) v h = one_more v (root_digits d (v / 4)) (digits_cut d (v / 4) (quarter (4 ^ d) (subst (λ (x : ℕ). v < x) (pow-suc 4 d) h)))
  where
    quarter : (p : ℕ) → v < p * 4 → v / 4 < p
    quarter p k = omega arith
