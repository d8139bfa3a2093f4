-- The promise of `first_twin_since` fixes its answer, and its number tells the three kinds of answer apart. Assumes nothing.
use Rattle.std.proofs.Common.{◌≡◌, ℕ, ◌+◌, ◌/◌, ◌%◌, ◌<◌, List, Float, Option, Some, None, Ok, Err, Result, IsOkAnd, sym, refl, ap, ◌∙◌, subst, arith}
use borrow.Author.Tests.{eqb-false}
use Rattle.answer.specs.declared.Refusal.{Refusal}
use Rattle.answer.specs.Answer.{Answer, is_done}
use Rattle.answer.specs.Number.{refusal_code, code_of, place_of, number_of}
use Rattle.answer.proofs.Done.{done_by_code}
use Rattle.matrix.specs.Matrix.{Matrix}
use Rattle.matrix.specs.declared.Layout.{Layout}
use Rattle.matrix.specs.Grid.{load}
use Rattle.matrix.specs.Layouts.{in_room, lower}
use Rattle.matrix.specs.Sizes.{sizes_of}
use Rattle.twins.specs.declared.Pair.{Pair}
use Rattle.twins.specs.First.{Found, FirstPair, First, FirstTwinOn, FirstTwinSince, FirstTwin, none, pair}
use Rattle.twins.specs.Number.{twin_number}

-- no later second row, and no later first row of one second row
no_later : {n : ℕ} {M : Matrix} {m p q r s : ℕ} → FirstPair n M m p q → FirstPair n M m r s → q < s → ⊥
no_later f g lt = g.least _ _ f.apart f.since lt f.twins

same_second : {n : ℕ} {M : Matrix} {m p q r s : ℕ} → FirstPair n M m p q → FirstPair n M m r s → q ≡ s
same_second {q = q} {s = s} f g =
    let under : (q < s) → ⊥ = no_later f g in
    let over : (s < q) → ⊥ = no_later g f in
    omega arith

no_later_first : {n : ℕ} {M : Matrix} {m p q r : ℕ} → FirstPair n M m p q → FirstPair n M m r q → p < r → ⊥
no_later_first f g lt = g.nearest _ lt f.twins

same_first : {n : ℕ} {M : Matrix} {m p q r : ℕ} → FirstPair n M m p q → FirstPair n M m r q → p ≡ r
same_first {p = p} {r = r} f g =
    let under : (p < r) → ⊥ = no_later_first f g in
    let over : (r < p) → ⊥ = no_later_first g f in
    omega arith

pub first_unique : {n : ℕ} {M : Matrix} {m : ℕ} {t u : Option Pair} → First n M m t → First n M m u → t ≡ u
first_unique (none a) (none b) = refl
first_unique (none a) (pair g) = absurd (a _ _ g.apart g.since g.within g.twins)
first_unique (pair f) (none b) = absurd (b _ _ f.apart f.since f.within f.twins)
first_unique {n} {M} {m} (pair {p} {q} f) (pair {p = r} {q = s} g) =
    let second : q ≡ s = same_second f g in
    let g' : FirstPair n M m r q = subst (λ (k : ℕ). FirstPair n M m r k) (sym second) g in
    let first : p ≡ r = same_first f g' in
    cc

-- two answers that meet the promise are equal
pub first_twin_on_unique : (y : Layout) (m : ℕ) (l : List Float) {t u : Found} → FirstTwinOn y m l t → FirstTwinOn y m l u → t ≡ u
first_twin_on_unique y m l {t = t} {u = u} a b =
    by (sizes_of y m l) refl
  where
    same : {t u : Found} → IsOkAnd t (First y.order (load (lower y) l) m) → IsOkAnd u (First y.order (load (lower y) l) m) → t ≡ u
    same {t = Ok t} {u = Ok u} f g = ap Ok (first_unique f g)
    same {t = Ok t} {u = Err e} f g = absurd g
    same {t = Err e} f g = absurd f

    by : (r : Answer) → sizes_of y m l ≡ r → t ≡ u
    by (Ok done) fits = same (a.found (ap is_done fits)) (b.found (ap is_done fits))
    by (Err fault) wrong = a.refused wrong ∙ sym (b.refused wrong)

pub first_twin_since_unique : (l : List Float) (room m n : ℕ) {t u : Found} → FirstTwinSince l room m n t → FirstTwinSince l room m n u → t ≡ u
first_twin_since_unique l room m n = first_twin_on_unique (in_room n room) m l

pub first_twin_unique : (l : List Float) (room n : ℕ) {t u : Found} → FirstTwin l room n t → FirstTwin l room n u → t ≡ u
first_twin_unique l room n = first_twin_since_unique l room 0 n

-- ---- the number

-- none, a refusal and a pair of rows below 1,024 have different numbers, and a pair's rows come back from its own
pub pair_number : (p q : ℕ) → p < 4096
    → (twin_number (Ok (Some (record { first = p; second = q }))) / 4096 ≡ 4096 + q) × (twin_number (Ok (Some (record { first = p; second = q }))) % 4096 ≡ p)
pair_number p q below = (omega arith, omega arith)

pub pair_above : {A : Type 0} (p q : ℕ) (a : Result A Refusal) → place_of a < 4096 → code_of a < 4096 → number_of a < twin_number (Ok (Some (record { first = p; second = q })))
pair_above p q a place code = omega arith

pub refusal_above : (r : Refusal) → twin_number (Ok None) < twin_number (Err r)
refusal_above r = omega (arith, eqb-false (refusal_code r) 0 (sym (done_by_code {A = Unit {0}} (Err r))))
