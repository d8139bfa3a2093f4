-- The promises of the readers: refused, worked, and unique. Assumes nothing.
use Rattle.std.specs.Prelude.{Result, Ok, Err}
use mathlib.Core.Path.{◌≡◌, refl, sym, ◌∙◌, ap}
use mathlib.Core.List.{List}
use Prim.Native.Nat.{◌*◌}
use lib.ListN.{length}
use lib.Ieee.{Float}
use borrow.Author.Tests.{eq-eqb, ne_eqb}
use Rattle.answer.specs.declared.Refusal.{Refusal}
use Rattle.answer.specs.declared.Refusal.TheVariants.{SliceLength}
use Rattle.answer.specs.Answer.{Answer, Done}
use Rattle.answer.specs.Refusals.{tested}
use Rattle.answer.proofs.Tested.{here, tested_all, tested_at, tested_refused, joined_refused, leaving_done, leaving_refused, leaving_alike}
use Rattle.matrix.specs.declared.Layout.{Layout}
use Rattle.matrix.specs.Grid.{load, mask}
use Rattle.matrix.specs.Layouts.{lower, square, Fills}
use Rattle.matrix.specs.Rounded.{◌⊗◌}
use Rattle.matrix.specs.Sizes.{size_tests, Fits}
use Rattle.matrix.proofs.Grids.{holds_unique}
use Rattle.matrix.proofs.Sizes.{fits_pass, fits_then}
use Rattle.matrix.proofs.Squares.{fills_unique}
use Rattle.cholesky.specs.Readers.{product_of, times_itself, CholeskyDetermined, triangle, Copied, Unpacked}

module _ {y : Layout} where
  -- a refusal by size
  module _ {a : List Float} {fault : Refusal} (is : Err fault ≡ tested (size_tests y 0 (length a)) Done) where
    pub determined_unfit : CholeskyDetermined y a (Err fault)
    determined_unfit = record { answer = sym (tested_refused (size_tests y 0 (length a)) _ (sym is)) }

    pub copied_unfit : {l : List Float} → Copied y a l l (Err fault)
    copied_unfit = record { answer = sym (joined_refused (size_tests y 0 (length a)) _ Done (sym is)); left = leaving_refused refl refl }

  pub determined_fit : {l : List Float} {p : Float} → Fits y 0 (length l) → p ≡ product_of y.order (load (lower y) l) → CholeskyDetermined y l (Ok (p ⊗ p))
  unfolding times_itself
  determined_fit {l} f is = record { answer = ap (λ (x : Float). Ok (x ⊗ x)) is ∙ sym (fits_pass y 0 (length l) f _) }

  pub copied_short : {a l : List Float} → Fits y 0 (length a) → (length l ≡ y.order * y.order → ⊥) → Copied y a l l (Err SliceLength)
  copied_short {a} f short = record { answer = sym (fits_then y 0 (length a) f _ Done ∙ tested_at _ Done (here (ne_eqb _ _ short) refl)); left = leaving_refused refl refl }

  pub copied_fit : {a l₀ l : List Float} → Fits y 0 (length a) → length l₀ ≡ y.order * y.order → Fills y.order l (mask (square y.order) (triangle (load (lower y) a))) → Copied y a l₀ l Done
  copied_fit {a} f long filled = record { answer = sym (fits_then y 0 (length a) f _ Done ∙ tested_all _ Done (eq-eqb _ _ long, tt)); left = leaving_done refl filled }

  -- ---- each promise fixes the answer and what is left

  pub determined_unique : {l : List Float} {r r' : Result Float Refusal} → CholeskyDetermined y l r → CholeskyDetermined y l r' → r ≡ r'
  determined_unique d d' = d.answer ∙ sym d'.answer

  pub copied_unique : {a l₀ l l' : List Float} {r r' : Answer} → Copied y a l₀ l r → Copied y a l₀ l' r' → (r ≡ r') × (l ≡ l')
  copied_unique c c' =
      let same = c.answer ∙ sym c'.answer in
      (same, leaving_alike same c.left c'.left (λ f f'. fills_unique f f') (λ e e'. e ∙ sym e'))

  pub unpacked_unique : {l₀ l l' : List Float} {r r' : Answer} → Unpacked y l₀ l r → Unpacked y l₀ l' r' → (r ≡ r') × (l ≡ l')
  unpacked_unique u u' =
      let same = u.answer ∙ sym u'.answer in
      (same, leaving_alike same u.left u'.left (λ h h'. holds_unique h h') (λ e e'. e ∙ sym e'))
