-- The larger of a number that is no NaN and any other. Assumes nothing.
use mathlib.Core.Path.{◌≡◌, sym}
use mathlib.Core.Bool.{true, not, true≢false}
use lib.Dec.{T}
use lib.Ieee.{Float, nan, inf, fin, is_nan, lt}

-- what something is below is no NaN
pub above_real : (x y : Float) → lt x y ≡ true → T (not (is_nan y))
unfolding is_nan
above_real nan nan h = unfold lt in absurd (true≢false (sym h))
above_real (inf s) nan h = unfold lt in absurd (true≢false (sym h))
above_real (fin s m e) nan h = unfold lt in absurd (true≢false (sym h))
above_real x (inf t) h = tt
above_real x (fin t k d) h = tt
