-- The promise of `factor` fixes the answer and both slices. Assumes nothing.
use mathlib.Core.List.{List}
use mathlib.Core.Path.{◌≡◌, refl, sym, ◌∙◌}
use Prim.Native.Nat.{ℕ, ◌<◌}
use lib.Seq.{ext_get_or}
use lib.Ieee.{Float, nan}
use Rattle.answer.specs.Answer.{Answer}
use Rattle.answer.proofs.Tested.{leaving_alike}
use Rattle.matrix.proofs.Squares.{fills_unique}
use Rattle.udu.specs.Promise.{Lists, UduFactored}

lists_unique : {n : ℕ} {l l' : List Float} {f : ℕ → Float} → Lists n l f → Lists n l' f → l ≡ l'
lists_unique {n} {l} {l'} a b =
    ext_get_or nan l l' (a.long ∙ sym b.long) (λ k below. let row : k < n = rw a.long at below in a.cells k row ∙ sym (b.cells k row))

pub factored_unique : {p u₀ d₀ u u' d d' : List Float} {n : ℕ} {r r' : Answer} → UduFactored p u₀ d₀ n r u d → UduFactored p u₀ d₀ n r' u' d' → (r ≡ r') × (u ≡ u') × (d ≡ d')
factored_unique {u = u} {u' = u'} {d = d} {d' = d'} a b =
    let same : (u ≡ u') × (d ≡ d') =
    leaving_alike refl a.slices b.slices
    (λ x y. (fills_unique x.upper y.upper, lists_unique x.diagonal y.diagonal))
    (λ x y. (x.upper ∙ sym y.upper, x.diagonal ∙ sym y.diagonal)) in
    (a.answer ∙ sym b.answer, same.0, same.1)
