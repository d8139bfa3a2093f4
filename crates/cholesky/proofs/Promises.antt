-- The promise of `extend`, over any rule: refused, worked, and unique. Assumes nothing.
use mathlib.Core.Path.{◌≡◌, refl, sym, ◌∙◌, ap}
use mathlib.Core.Bool.{false}
use mathlib.Core.List.{List}
use Prim.Native.Nat.{ℕ}
use lib.ListN.{length}
use lib.Ieee.{Float}
use Rattle.answer.specs.Answer.{Answer, Done, is_done}
use Rattle.answer.specs.Refusals.{tested}
use Rattle.answer.proofs.Tested.{tested_fixed, leaving_done, leaving_refused, leaving_alike}
use Rattle.matrix.specs.declared.Layout.{Layout}
use Rattle.matrix.specs.Sizes.{size_tests, Fits}
use Rattle.matrix.proofs.Grids.{holds_unique}
use Rattle.matrix.proofs.Sizes.{fits_pass}
use Rattle.cholesky.specs.Run.{Rule}
use Rattle.cholesky.specs.Leaves.{Leaves}
use Rattle.cholesky.specs.inner.Engine.{Ends}
use Rattle.cholesky.specs.Promise.{batch_by, ExtendedBy}

module _ {ρ : Rule} {y : Layout} {m : ℕ} where
  pub extended_unfit : {l : List Float} {x : Answer} → x ≡ tested (size_tests y m (length l)) Done → is_done x ≡ false → ExtendedBy ρ y m l l x
  extended_unfit {l} is refused =
      let failed = ap is_done (sym is) ∙ refused in
      record { answer = is ∙ sym (tested_fixed (size_tests y m (length l)) (batch_by ρ y m l).answer failed); left = leaving_refused failed refl }

  pub extended_fit : {l₀ l : List Float} {r : Answer} → Fits y m (length l₀) → Ends y l₀ l r (batch_by ρ y m l₀) → ExtendedBy ρ y m l₀ l r
  extended_fit {l₀} f e = record {
    answer = e.answer ∙ sym (fits_pass y m (length l₀) f (batch_by ρ y m l₀).answer);
    left = leaving_done (ap is_done (fits_pass y m (length l₀) f Done)) e.leaves;
  }

  -- where the sizes fit
  module _ {l₀ l : List Float} {r : Answer} (call : ExtendedBy ρ y m l₀ l r) (f : Fits y m (length l₀)) where
    pub extended_answer : r ≡ (batch_by ρ y m l₀).answer
    extended_answer = call.answer ∙ fits_pass y m (length l₀) f (batch_by ρ y m l₀).answer

    pub extended_leaves : Leaves y l₀ l (batch_by ρ y m l₀).cells
    extended_leaves = call.left.done (ap is_done (fits_pass y m (length l₀) f Done))

  -- the promise fixes the answer and the slice
  pub extended_unique : {l₀ l l' : List Float} {r r' : Answer} → ExtendedBy ρ y m l₀ l r → ExtendedBy ρ y m l₀ l' r' → (r ≡ r') × (l ≡ l')
  extended_unique e e' = (e.answer ∙ sym e'.answer, leaving_alike refl e.left e'.left (λ h h'. holds_unique h.holds h'.holds) (λ h h'. h ∙ sym h'))
