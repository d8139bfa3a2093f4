-- The rows and the places that `first_twin_on` answers. Assumes nothing.
use Rattle.std.proofs.Common.{◌≡◌, true, List, ℕ, ◌≤◌, ◌<◌, Float, length, Option, None, Some, Ok, Err, IsOkAnd, refl, sym, ap, subst, arith}
use Rattle.answer.specs.Answer.{Answer, Done, is_done}
use Rattle.answer.specs.Number.{refusal_place}
use Rattle.answer.proofs.Within.{Within, within_none}
use Rattle.matrix.specs.Matrix.{Matrix}
use Rattle.matrix.specs.Grid.{load}
use Rattle.matrix.specs.Layouts.{lower}
use Rattle.matrix.specs.declared.Layout.{Layout}
use Rattle.matrix.specs.Sizes.{sizes_of}
use Rattle.matrix.proofs.Sizes.{done_fits, sizes_within}
use Rattle.twins.specs.declared.Pair.{Pair}
use Rattle.twins.specs.First.{Found, First, FirstTwinOn, none, pair}

-- the first row of a pair, or the place of a refusal, is at most 1,024
abbrev pub Small : Found → Type 0
Small (Ok None) = Unit {0}
Small (Ok (Some rows)) = rows.first ≤ 1024
Small (Err refusal) = refusal_place refusal ≤ 1024

order_small : (y : Layout) (m : ℕ) (l : List Float) → is_done (sizes_of y m l) ≡ true → y.order ≤ 1024
order_small y m l done = let roomy = (done_fits y m (length l) Done done).roomy in omega (arith, roomy.ordered, roomy.small)

first_small : {n : ℕ} {M : Matrix} {m : ℕ} {t : Option Pair} → n ≤ 1024 → First n M m t → Small (Ok t)
first_small small (none a) = tt
first_small small (pair {p} {q} f) = let rows : p < q = f.apart in let last : q < _ = f.within in omega (arith, rows, last, small)

found_small : (n : ℕ) (M : Matrix) (m : ℕ) (r : Found) → n ≤ 1024 → IsOkAnd r (First n M m) → Small r
found_small n M m (Ok t) small first = first_small small first
found_small n M m (Err refusal) small never = absurd never

pub twin_small : (y : Layout) (m : ℕ) (l : List Float) {r : Found} → FirstTwinOn y m l r → Small r
twin_small y m l {r = r} x = by (sizes_of y m l) refl
  where
    by : (sizes : Answer) → sizes_of y m l ≡ sizes → Small r
    by (Ok done) fits = found_small y.order (load (lower y) l) m r (order_small y m l (ap is_done fits)) (x.found (ap is_done fits))
    by (Err refusal) wrong = subst Small (sym (x.refused wrong)) (subst (Within 1024) wrong (sizes_within y m (length l) Done (within_none y.order)))
