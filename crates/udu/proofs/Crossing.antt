-- The loop that adds up the cross terms in column j: `Crossing u₀ d n j k u` is its invariant. Assumes nothing.
use mathlib.Core.List.{List}
use mathlib.Core.Logic.{inr}
use mathlib.Core.Path.{◌≡◌, refl, ◌∙◌, ap}
use Prim.Native.Nat.{ℕ, ◌+◌, ◌*◌, ◌≤◌, ◌<◌}
use native.Mathlib.Omega.{arith}
use lib.ListN.{length, get_or}
use lib.Ieee.{Float, nan}
use Rattle.matrix.specs.Loop.{for}
use Rattle.matrix.specs.Rounded.{◌⊗◌, plus_zero}
use Rattle.matrix.proofs.Places.{digits_within}
use Rattle.strips.specs.declared.Source.{Source}
use Rattle.strips.specs.inner.Strip.{Strip, Elsewhere, plus, Gathered}
use Rattle.strips.proofs.Strips.{strip_as}
use Rattle.strips.proofs.Gathering.{gathered_none, gathered_then}
use Rattle.udu.specs.Columns.{plus_cross, cross_sum}
use Rattle.udu.specs.inner.Contracts.{Zeros, factors_in, source_of}
use Rattle.udu.proofs.Entries.{kept}

-- a column after j stands behind the rows of column j
pub source_elsewhere : (n j k : ℕ) (u d : List Float) {s : Source} → s ≡ source_of n u d j k → length u ≡ n * n → j < k → k < n → Elsewhere 0 j (j * n) u s
source_elsewhere n j k u d is long behind below =
    rw is (record { within = omega (arith, digits_within n n j k (omega arith) below); beside = inr (omega (arith, digits_within n k j j (omega arith) behind)) })

-- and what it is multiplied by is no row of the strip
source_kept : (n j k : ℕ) (d : List Float) {v : ℕ → Float} {u₀ u : List Float} → Strip (j * n) 0 j v u₀ u → j < k → j < n → source_of n u d j k ≡ source_of n u₀ d j k
source_kept n j k d w behind below =
    ap (λ (x : Float). record { start = k * n; scale = get_or d k nan ⊗ x }) (kept n j w (omega arith) j k below (λ e. omega arith))

pub record Crossing (u₀ d : List Float) (n j k : ℕ) (u : List Float) : Type 0 where
  pub upto : k ≤ n
  pub gathered : Gathered (j * n) 0 j (source_of n u₀ d j) (j + 1) u₀ k u

pub crossing_none : {u d : List Float} {n j : ℕ} → j < n → Crossing u d n j (j + 1) u
crossing_none below = record { upto = omega arith; gathered = gathered_none }

pub crossing_more : {u₀ d : List Float} {n j k next : ℕ} {u u' : List Float} → Crossing u₀ d n j k u → length u₀ ≡ n * n → next ≤ n
    → Gathered (j * n) 0 j (source_of n u d j) k u next u' → Crossing u₀ d n j next u'
crossing_more {u₀} {d} {n} {j} w long upto more = record {
  upto = upto;
  gathered =
      let from = w.gathered.from in
      gathered_then w.gathered more (λ c low high. source_kept n j c d w.gathered.sums (omega arith) (omega arith))
      (λ c low high. source_elsewhere n j c u₀ d refl long (omega arith) (omega arith));
}

pub crossing_at : {u₀ d : List Float} {n j k k' : ℕ} {u u' : List Float} → k ≡ k' → u' ≡ u → Crossing u₀ d n j k u → Crossing u₀ d n j k' u'
crossing_at same is w = rw (← same, is) w

pub crossing_all : {u₀ d : List Float} {n j k : ℕ} {u : List Float} → Crossing u₀ d n j k u → n ≤ k → j < n → Zeros n (j + 1) u₀ → Strip (j * n) 0 j (cross_sum n (factors_in n u₀ d) j) u₀ u
unfolding cross_sum plus
crossing_all {u₀} {d} {n} {j} {k} w past below zeros =
    strip_as w.gathered.sums (λ i from less.
    ap (for (j + 1) k (plus_cross (factors_in n u₀ d) j i)) (zeros.cells i j (omega arith) (omega arith))
    ∙ ap (λ (hi : ℕ). for (j + 1) hi (plus_cross (factors_in n u₀ d) j i) plus_zero) (omega (arith, w.upto)))
