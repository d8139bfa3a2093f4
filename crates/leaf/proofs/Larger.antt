-- The three ways out of `maximum`.
use mathlib.Core.Path.{◌≡◌, refl, sym, ap}
use mathlib.Core.Bool.{Bool, true, false, not, cond, true≢false}
use lib.Dec.{T}
use lib.Ieee.{Float, nan, inf, fin, is_nan, lt}
use Rattle.leaf.specs.Maximum.{maximum_of}

pub of_nan : (x y : Float) → x ≡ nan → y ≡ maximum_of x y
unfolding maximum_of is_nan
of_nan x y h = ap (λ (z : Float). maximum_of z y) (sym h)

-- a number that something is below is no NaN
pub of_less : (x y : Float) → T (not (is_nan x)) → lt x y ≡ true → y ≡ maximum_of x y
unfolding maximum_of is_nan
of_less nan y n h = absurd n
of_less (inf s) nan n h = unfold lt in absurd (true≢false (sym h))
of_less (inf s) (inf t) n h = ap (λ (b : Bool). cond b (inf t) (inf s)) (sym h)
of_less (inf s) (fin t k d) n h = ap (λ (b : Bool). cond b (fin t k d) (inf s)) (sym h)
of_less (fin s m e) nan n h = unfold lt in absurd (true≢false (sym h))
of_less (fin s m e) (inf t) n h = ap (λ (b : Bool). cond b (inf t) (fin s m e)) (sym h)
of_less (fin s m e) (fin t k d) n h = ap (λ (b : Bool). cond b (fin t k d) (fin s m e)) (sym h)

pub of_rest : (x y : Float) → T (not (is_nan x)) → lt x y ≡ false → x ≡ maximum_of x y
unfolding maximum_of is_nan
of_rest nan y n h = absurd n
of_rest (inf s) nan n h = refl
of_rest (inf s) (inf t) n h = ap (λ (b : Bool). cond b (inf t) (inf s)) (sym h)
of_rest (inf s) (fin t k d) n h = ap (λ (b : Bool). cond b (fin t k d) (inf s)) (sym h)
of_rest (fin s m e) nan n h = refl
of_rest (fin s m e) (inf t) n h = ap (λ (b : Bool). cond b (inf t) (fin s m e)) (sym h)
of_rest (fin s m e) (fin t k d) n h = ap (λ (b : Bool). cond b (fin t k d) (fin s m e)) (sym h)
