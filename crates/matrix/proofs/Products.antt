-- Laws of products of floats, over the format, and of what is less by a product. Assumes nothing.
use mathlib.Core.Path.{◌≡◌, refl, sym, ◌∙◌, ap}
use mathlib.Core.Bool.{Bool, true, false, not, cond}
use Prim.Native.Nat.{ℕ, zero, suc, ◌+◌, ◌*◌, ◌^◌}
use native.Mathlib.Nat.{mul_comm}
use lib.Dec.{eqb, ltb}
use lib.Ieee.{Float, nan, inf, fin, Format, neg, add, sub, mul, unlike, prec, emax, low, up, down, odd, units, round}

unlike_comm : (s t : Bool) → unlike s t ≡ unlike t s
unlike_comm true true = refl
unlike_comm true false = refl
unlike_comm false true = refl
unlike_comm false false = refl

unlike_moves : (s t : Bool) → unlike (not s) t ≡ unlike s (not t)
unlike_moves true true = refl
unlike_moves true false = refl
unlike_moves false true = refl
unlike_moves false false = refl

-- a product's factors may be exchanged
pub mul_commutes : (f : Format) (x y : Float) → mul f x y ≡ mul f y x
unfolding mul
mul_commutes f nan nan = refl
mul_commutes f nan (inf t) = refl
mul_commutes f nan (fin t n d) = refl
mul_commutes f (inf s) nan = refl
mul_commutes f (inf s) (inf t) = ap inf (unlike_comm s t)
mul_commutes f (inf s) (fin t n d) = ap (λ (u : Bool). cond (eqb n 0) nan (inf u)) (unlike_comm s t)
mul_commutes f (fin s m e) nan = refl
mul_commutes f (fin s m e) (inf t) = ap (λ (u : Bool). cond (eqb m 0) nan (inf u)) (unlike_comm s t)
mul_commutes f (fin s m e) (fin t n d) = rw (unlike_comm s t, mul_comm (m * up e) (n * up d), mul_comm (down e) (down d))

-- a sign moves from one factor to the other
pub neg_moves : (f : Format) (x y : Float) → mul f (neg x) y ≡ mul f x (neg y)
unfolding mul neg
neg_moves f nan nan = refl
neg_moves f nan (inf t) = refl
neg_moves f nan (fin t n d) = refl
neg_moves f (inf s) nan = refl
neg_moves f (inf s) (inf t) = ap inf (unlike_moves s t)
neg_moves f (inf s) (fin t n d) = ap (λ (u : Bool). cond (eqb n 0) nan (inf u)) (unlike_moves s t)
neg_moves f (fin s m e) nan = refl
neg_moves f (fin s m e) (inf t) = ap (λ (u : Bool). cond (eqb m 0) nan (inf u)) (unlike_moves s t)
neg_moves f (fin s m e) (fin t n d) = rw (unlike_moves s t)

-- (−x)·y is (−y)·x
pub neg_exchanges : (f : Format) (x y : Float) → mul f (neg x) y ≡ mul f (neg y) x
neg_exchanges f x y = neg_moves f x y ∙ mul_commutes f x (neg y)

-- ---- a difference is a sum

odd_neg : (d : ℕ) (s : Bool) (q k l : ℕ) → odd d (not s) q k l ≡ neg (odd d s q k l)
unfolding odd neg
odd_neg d s zero k l = refl
odd_neg d s (suc q) k l = refl

units_neg : (f : Format) (s : Bool) (q k : ℕ) → units f (not s) q k ≡ neg (units f s q k)
unfolding units neg
units_neg f s q k = either (ltb (q * 2 ^ k) (2 ^ (low f + suc (emax f)))) _ _ (odd_neg (suc (prec f)) s q k (low f))
  where
    either : (t : Bool) (x y : Float) → x ≡ neg y → cond t x (inf (not s)) ≡ neg (cond t y (inf s))
    either true x y e = e
    either false x y e = refl

round_neg : (f : Format) (s : Bool) (num den : ℕ) → round f (not s) num den ≡ neg (round f s num den)
unfolding round
round_neg f s num den = units_neg f s _ _

unlike_neg : (s t : Bool) → unlike (not s) t ≡ not (unlike s t)
unlike_neg true true = refl
unlike_neg true false = refl
unlike_neg false true = refl
unlike_neg false false = refl

-- a product with an infinity, NaN where the other factor is zero
infinite_neg : (none : Bool) (s t : Bool) → cond none nan (inf (unlike (not s) t)) ≡ neg (cond none nan (inf (unlike s t)))
unfolding neg
infinite_neg true s t = refl
infinite_neg false s t = ap inf (unlike_neg s t)

-- (−x)·y is −(x·y)
neg_product : (f : Format) (x y : Float) → mul f (neg x) y ≡ neg (mul f x y)
unfolding mul neg
neg_product f nan y = refl
neg_product f (inf s) nan = refl
neg_product f (inf s) (inf t) = ap inf (unlike_neg s t)
neg_product f (inf s) (fin t n d) = infinite_neg (eqb n 0) s t
neg_product f (fin s m e) nan = refl
neg_product f (fin s m e) (inf t) = infinite_neg (eqb m 0) s t
neg_product f (fin s m e) (fin t n d) = rw (unlike_neg s t) (round_neg f (unlike s t) _ _)

-- x − y·z is x + (−z)·y
pub less_is_plus : (f : Format) (x y z : Float) → sub f x (mul f y z) ≡ add f x (mul f (neg z) y)
unfolding sub
less_is_plus f x y z = ap (add f x) (sym (neg_product f y z) ∙ neg_exchanges f y z)
