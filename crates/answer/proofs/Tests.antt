-- By the two ways of a test. Assumes nothing.
use mathlib.Core.Path.{◌≡◌, refl, sym}
use mathlib.Core.Bool.{Bool, true, false, cond}
use mathlib.Core.Logic.{◌⊎◌, inl, inr}
use Prim.Native.Nat.{ℕ, ◌+◌, ◌≤◌, ◌<◌}
use native.Mathlib.Omega.{arith}
use lib.Dec.{eqb, leb, ltb}
use borrow.Author.Tests.{eqb-true, eqb-false, leb-true, leb-false, ltb-true, ltb-false, eq-eqb, ne_eqb, le-leb, lt-leb}

-- what is chosen by it
pub either : {A : Type 0} (P : A → Type 0) (b : Bool) {x y : A} → (b ≡ true → P x) → (b ≡ false → P y) → P (cond b x y)
either P true f g = f refl
either P false f g = g refl

-- x and y need to agree only where the test holds
pub where_tested : {A : Type 0} (b : Bool) {x y : A} (z : A) → (b ≡ true → x ≡ y) → cond b x z ≡ cond b y z
where_tested true z same = same refl
where_tested false z same = refl

pub eq_or_ne : (a b : ℕ) → (a ≡ b) ⊎ (a ≡ b → ⊥)
eq_or_ne a b = go (eqb a b) refl
  where
    go : (t : Bool) → eqb a b ≡ t → (a ≡ b) ⊎ (a ≡ b → ⊥)
    go true e = inl (eqb-true a b e)
    go false e = inr (eqb-false a b e)

pub lt_or_ge : (a b : ℕ) → (a < b) ⊎ (b ≤ a)
lt_or_ge a b = go (ltb a b) refl
  where
    go : (t : Bool) → ltb a b ≡ t → (a < b) ⊎ (b ≤ a)
    go true e = inl (ltb-true a b e)
    go false e = inr (ltb-false a b e)

-- two tests that answer alike
alike : (s t : Bool) → (s ≡ true → t ≡ true) → (s ≡ false → t ≡ false) → s ≡ t
alike true t both neither = sym (both refl)
alike false t both neither = sym (neither refl)

-- both numbers counted from m on
pub eqb_shift : (m a b : ℕ) → eqb a b ≡ eqb (m + a) (m + b)
eqb_shift m a b =
    alike (eqb a b) (eqb (m + a) (m + b)) (λ e. eq-eqb (m + a) (m + b) (let same : a ≡ b = eqb-true a b e in omega arith))
    (λ e. ne_eqb (m + a) (m + b) (λ same. eqb-false a b e (omega arith)))

pub leb_shift : (m a b : ℕ) → leb a b ≡ leb (m + a) (m + b)
leb_shift m a b =
    alike (leb a b) (leb (m + a) (m + b)) (λ e. le-leb (m + a) (m + b) (let within : a ≤ b = leb-true a b e in omega arith))
    (λ e. lt-leb (m + a) (m + b) (let beyond : b < a = leb-false a b e in omega arith))
