-- The promise of `extend_floored`: refused, worked, unique; and with a floor that fails, that of `extend`. Assumes nothing.
use Rattle.std.specs.Prelude.{Err}
use mathlib.Core.Path.{◌≡◌, refl, sym, ◌∙◌, ap, ap₂, subst}
use mathlib.Core.Bool.{false}
use mathlib.Core.List.{List}
use Prim.Native.Nat.{ℕ}
use lib.ListN.{length}
use lib.Ieee.{Float}
use Rattle.answer.specs.declared.Refusal.{Refusal}
use Rattle.answer.specs.Answer.{Answer, Done, is_done}
use Rattle.matrix.specs.declared.Layout.{Layout}
use Rattle.matrix.specs.Grid.{load}
use Rattle.matrix.specs.Layouts.{lower}
use Rattle.matrix.specs.Sizes.{sizes_of, Fits}
use Rattle.matrix.proofs.Sizes.{fits_pass}
use Rattle.cholesky.specs.declared.Floored.{Floored}
use Rattle.cholesky.specs.Run.{Rule}
use Rattle.cholesky.specs.Floor.{passes, floor_rule}
use Rattle.cholesky.specs.Used.{used_by}
use Rattle.cholesky.specs.Promise.{ExtendedBy, Extended}
use Rattle.cholesky.specs.Floored.{used_on, ExtendedFloored}
use Rattle.cholesky.specs.inner.Engine.{RanThrough}
use Rattle.cholesky.proofs.Floor.{plain_rule}
use Rattle.cholesky.proofs.Promises.{extended_unfit, extended_fit, extended_unique}

-- ---- the count

module _ (s : Float) (y : Layout) (m : ℕ) (l : List Float) where
  pub used_fit : Fits y m (length l) → used_on s y m l ≡ used_by (floor_rule s) m y.order (load (lower y) l)
  unfolding used_on
  used_fit f = rw (ap is_done (fits_pass y m (length l) f Done))

  pub used_unfit : is_done (sizes_of y m l) ≡ false → used_on s y m l ≡ 0
  unfolding used_on
  used_unfit failed = rw failed

-- ---- the promise

module _ {s : Float} {y : Layout} {m : ℕ} where
  pub floored_unfit : {l : List Float} {fault : Refusal} → Err fault ≡ sizes_of y m l → ExtendedFloored s y m l l (record { answer = Err fault; used = 0 })
  floored_unfit {l} is = record { extended = extended_unfit is refl; used = sym (used_unfit s y m l (ap is_done (sym is))) }

  pub floored_fit : {l₀ l : List Float} {r : Floored} → Fits y m (length l₀) → RanThrough (floor_rule s) y m l₀ l r → ExtendedFloored s y m l₀ l r
  floored_fit {l₀} f ran = record { extended = extended_fit f ran.ends; used = ran.used ∙ sym (used_fit s y m l₀ f) }

  -- the promise fixes the answer, the count and the slice
  pub floored_unique : {l₀ l l' : List Float} {r r' : Floored} → ExtendedFloored s y m l₀ l r → ExtendedFloored s y m l₀ l' r' → (r ≡ r') × (l ≡ l')
  floored_unique e e' =
      let both = extended_unique e.extended e'.extended in
      (ap₂ (λ (a : Answer) (u : ℕ). record { answer = a; used = u }) both.0 (e.used ∙ sym e'.used), both.1)

  -- a floor that fails
  pub floored_plain : {l₀ l : List Float} {r : Floored} → passes s ≡ false → ExtendedFloored s y m l₀ l r → Extended y m l₀ l r.answer
  floored_plain {l₀} {l} {r} fails e = subst (λ (ρ : Rule). ExtendedBy ρ y m l₀ l r.answer) (plain_rule s fails) e.extended
