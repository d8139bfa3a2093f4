-- The answer to a diagonal. Assumes nothing.
--     answer_is         by the number alone: NaN 11, zero 7, below zero 10, else it passes
--     some_due, due_is  one of the four answers is due, and no other
--     answer_passes     a diagonal passes exactly if it is above zero
--     answer_place      a refusal names its column
use Rattle.std.specs.Prelude.{Err}
use mathlib.Core.Path.{◌≡◌, refl, sym, ◌∙◌, ap, subst}
use mathlib.Core.Bool.{Bool, true, false, true≢false}
use Prim.Native.Nat.{ℕ, zero, suc, ◌*◌, ◌<◌}
use native.Mathlib.Nat.{zero-mul, mul-one, add-zero, mul-pos, zero-lt-suc}
use native.Mathlib.Omega.{arith}
use lib.Ieee.{Float, nan, inf, fin, lt, eq, is_nan, of_bits, up}
use lib.Ieee.Fits.{up_pos}
use borrow.Author.Tests.{lt-ltb, le-ltb, ne_eqb}
use Rattle.answer.specs.declared.Refusal.TheVariants.{CholeskyZero, CholeskyBelowZero, CholeskyNan}
use Rattle.answer.specs.Answer.{Answer, Done, is_done}
use Rattle.answer.specs.Number.{place_of}
use Rattle.matrix.specs.Rounded.{plus_zero}
use Rattle.cholesky.specs.Crate.{answer_to}
use Rattle.cholesky.specs.Diagonal.{Due, above_zero, is_zero, below_zero, is_a_nan, due_to}

-- ---- the four tests of a number

record Tests (d : Float) (a z b n : Bool) : Type 0 where
  above_zero : lt plus_zero d ≡ a
  is_zero : eq d plus_zero ≡ z
  below_zero : lt d plus_zero ≡ b
  is_a_nan : is_nan d ≡ n

-- just one of them holds, and r is the answer for it
data Only (d : Float) (j : ℕ) : Answer → Type 0 where
  only_above : Tests d true false false false → Only d j Done
  only_zero : Tests d false true false false → Only d j (Err (CholeskyZero j))
  only_below : Tests d false false true false → Only d j (Err (CholeskyBelowZero j))
  only_nan : Tests d false false false true → Only d j (Err (CholeskyNan j))

only : (d : Float) (j : ℕ) → Only d j (due_to d j)
unfolding due_to lt eq is_nan of_bits
only nan j = only_nan (record { above_zero = refl; is_zero = refl; below_zero = refl; is_a_nan = refl })
only (inf false) j = only_above (record { above_zero = refl; is_zero = refl; below_zero = refl; is_a_nan = refl })
only (inf true) j = only_below (record { above_zero = refl; is_zero = refl; below_zero = refl; is_a_nan = refl })
only (fin false zero e) j = only_zero (record { above_zero = simp zero-mul; is_zero = simp zero-mul; below_zero = simp zero-mul; is_a_nan = refl })
only (fin true zero e) j = only_zero (record { above_zero = refl; is_zero = simp zero-mul; below_zero = simp zero-mul; is_a_nan = refl })
only (fin false (suc m) e) j =
    let some : 0 < suc m * up e = mul-pos (zero-lt-suc m) (up_pos e) in
    only_above (record {
      above_zero = simp (zero-mul, mul-one, lt-ltb 0 (suc m * up e) some);
      is_zero = simp (zero-mul, mul-one, ne_eqb (suc m * up e) 0 (λ gone. omega arith));
      below_zero = simp (zero-mul, mul-one, le-ltb (suc m * up e) 0 (omega arith));
      is_a_nan = refl;
    })
only (fin true (suc m) e) j =
    let some : 0 < suc m * up e = mul-pos (zero-lt-suc m) (up_pos e) in
    only_below (record {
      above_zero = refl;
      is_zero = simp (zero-mul, mul-one, ne_eqb (suc m * up e) 0 (λ gone. omega arith));
      below_zero = simp (zero-mul, mul-one, add-zero, lt-ltb 0 (suc m * up e) some);
      is_a_nan = refl;
    })

-- ---- the answer

pub answer_is : (d : Float) (j : ℕ) → answer_to d j ≡ due_to d j
unfolding answer_to
answer_is d j = by (only d j)
  where
    by : {r : Answer} → Only d j r → answer_to d j ≡ r
    by (only_above t) = simp t.above_zero
    by (only_zero t) = simp (t.above_zero, t.is_zero)
    by (only_below t) = simp (t.above_zero, t.is_zero, t.below_zero)
    by (only_nan t) = simp (t.above_zero, t.is_zero, t.below_zero)

pub some_due : (d : Float) (j : ℕ) → Due d j (answer_to d j)
some_due d j = subst (Due d j) (sym (answer_is d j)) (by (only d j))
  where
    by : {r : Answer} → Only d j r → Due d j r
    by (only_above t) = above_zero t.above_zero
    by (only_zero t) = is_zero t.is_zero
    by (only_below t) = below_zero t.below_zero
    by (only_nan t) = is_a_nan t.is_a_nan

pub due_is : {d : Float} {j : ℕ} {r : Answer} → Due d j r → r ≡ answer_to d j
due_is {d} {j} so = by (only d j) so ∙ sym (answer_is d j)
  where
    no : {P : Type 0} {b : Bool} → b ≡ true → b ≡ false → P
    no holds fails = absurd (true≢false (sym holds ∙ fails))

    by : {r s : Answer} → Only d j s → Due d j r → r ≡ s
    by (only_above t) (above_zero h) = refl
    by (only_above t) (is_zero h) = no h t.is_zero
    by (only_above t) (below_zero h) = no h t.below_zero
    by (only_above t) (is_a_nan h) = no h t.is_a_nan
    by (only_zero t) (above_zero h) = no h t.above_zero
    by (only_zero t) (is_zero h) = refl
    by (only_zero t) (below_zero h) = no h t.below_zero
    by (only_zero t) (is_a_nan h) = no h t.is_a_nan
    by (only_below t) (above_zero h) = no h t.above_zero
    by (only_below t) (is_zero h) = no h t.is_zero
    by (only_below t) (below_zero h) = refl
    by (only_below t) (is_a_nan h) = no h t.is_a_nan
    by (only_nan t) (above_zero h) = no h t.above_zero
    by (only_nan t) (is_zero h) = no h t.is_zero
    by (only_nan t) (below_zero h) = no h t.below_zero
    by (only_nan t) (is_a_nan h) = refl

pub answer_passes : (d : Float) (j : ℕ) → is_done (answer_to d j) ≡ lt plus_zero d
answer_passes d j = ap is_done (answer_is d j) ∙ by (only d j)
  where
    by : {r : Answer} → Only d j r → is_done r ≡ lt plus_zero d
    by (only_above t) = sym t.above_zero
    by (only_zero t) = sym t.above_zero
    by (only_below t) = sym t.above_zero
    by (only_nan t) = sym t.above_zero

pub answer_place : (d : Float) (j : ℕ) → is_done (answer_to d j) ≡ false → place_of (answer_to d j) ≡ j
answer_place d j = by (some_due d j)
  where
    by : {r : Answer} → Due d j r → is_done r ≡ false → place_of r ≡ j
    by (above_zero h) failed = absurd (true≢false failed)
    by (is_zero h) failed = refl
    by (below_zero h) failed = refl
    by (is_a_nan h) failed = refl
