-- No size is below α times itself, α = 0.6403882032022076. Assumes nothing.
use mathlib.Core.Path.{◌≡◌, refl, sym, subst}
use mathlib.Core.Bool.{Bool, true, false, ◌&&◌, ◌||◌}
use Prim.Native.Nat.{ℕ, suc, ◌+◌, ◌*◌}
use mathlib.Core.Logic.{◌⊎◌, inl, inr, ⊎_elim}
use native.Mathlib.Nat.{le_refl, le_of_lt, le_of_eq, zero-lt-suc}
use native.Mathlib.Omega.{arith}
use lib.IntN.{ℤ}
use lib.Dec.{T, ltb, eqb, ltb→lt, lt→ltb, eqb→eq}
use borrow.Author.Tests.{le-ltb}
use lib.Ieee.{Float, nan, inf, fin, binary64, lt, le, eq, fits, of_bits, up, down, below, level}
use lib.Ieee.Fits.{and_l, and_r}
use lib.Ieee.Positive.{positive, mul_mono, cross→le}
use Rattle.matrix.specs.Rounded.{◌⊗◌}
use Rattle.twin_laws.proofs.Exact.{one, one_times}

either : (x y : Bool) → T (x || y) → T x ⊎ T y
either true y t = inl tt
either false y t = inr t

-- on sizes: not above is not below the other way round
not_below : (s : Bool) (a : ℕ) (t : Bool) (b : ℕ) → T (below s a t b || level s a t b) → below t b s a ≡ false
not_below false a false b h =
    le-ltb b a (⊎_elim (λ t. le_of_lt (ltb→lt a b t)) (λ t. le_of_eq (eqb→eq a b (and_l (eqb a b) true t))) (either (ltb a b) (eqb a b && true) h))
not_below false a true b h =
    let same : a ≡ b = eqb→eq a b (and_l (eqb a b) (eqb a 0) h) in
    let none : a ≡ 0 = eqb→eq a 0 (and_r (eqb a b) (eqb a 0) h) in
    le-ltb 0 (b + a) (omega arith)
not_below true a false b h = refl
not_below true a true b h =
    le-ltb a b (⊎_elim (λ t. le_of_lt (ltb→lt b a t)) (λ t. le_of_eq (sym (eqb→eq a b (and_l (eqb a b) true t)))) (either (ltb b a) (eqb a b && true) h))

pub not_lt : (x y : Float) → T (le x y) → lt y x ≡ false
unfolding le lt eq
not_lt nan y h = absurd h
not_lt (inf s) nan h = absurd h
not_lt (inf true) (inf true) h = refl
not_lt (inf true) (inf false) h = refl
not_lt (inf false) (inf true) h = absurd h
not_lt (inf false) (inf false) h = refl
not_lt (inf true) (fin t n d) h = refl
not_lt (inf false) (fin t n d) h = absurd h
not_lt (fin s m e) nan h = absurd h
not_lt (fin s m e) (inf true) h = absurd h
not_lt (fin s m e) (inf false) h = refl
not_lt (fin s m e) (fin t n d) h = not_below s (m * up e * down d) t (n * up d * down e) h

abbrev α : Float
α = of_bits binary64 0x3fe4_7e0f_66af_ed07

α_at_most_one : T (positive α) × T (le α one)
unfolding of_bits le
α_at_most_one = (tt, tt)

pub share_not_above : (m : ℕ) (e : ℤ) → T (fits binary64 (fin false (suc m) e)) → lt (fin false (suc m) e) (α ⊗ fin false (suc m) e) ≡ false
share_not_above m e held =
    let x = fin false (suc m) e in
    let above : T (positive x) = lt→ltb 0 (suc m) (zero-lt-suc m) in
    not_lt (α ⊗ x) x
    (subst (λ (y : Float). T (le (α ⊗ x) y)) (one_times binary64 x held)
    (mul_mono binary64 α one x x α_at_most_one.0 tt above above α_at_most_one.1 (cross→le x x above above (le_refl (suc m * up e * down e)))))
