-- The places that are still to come from a place on: one after the other, as `next` goes.
use Rattle.std.proofs.Common.{◌≡◌, ℕ, zero, suc, ◌+◌, ◌*◌, ◌-◌, ◌<◌, ◌≤◌, List, [], ◌∷◌, length, refl, sym, ap, ◌∙◌, arith, add-one, length-append}
use Rattle.std.proofs.lemmas.Nat.{mul-add-lt}
use mathlib.Core.Logic.{⊎_elim}
use borrow.Author.Tests.{lt-ltb, le-ltb}
use Rattle.answer.proofs.Tests.{lt_or_ge}
use Rattle.sheet_text.specs.declared.place.Place.{Place}
use Rattle.sheet_text.specs.Place.{rows, columns, places, cell}
use Rattle.sheet_text.specs.inner.Next.{next_place, rest_from}

abbrev pub at : ℕ → ℕ → Place
at i j = record { row = i; column = j }

from_diagonal : (n j m : ℕ) → n - j ≡ m → columns m j ≡ rest_from n (at j j)
unfolding rest_from columns rows
from_diagonal n j zero e =
    let f : n - suc j ≡ 0 = omega arith in
    rw (e, f)
from_diagonal n j (suc m) e =
    let f : n - suc j ≡ m = omega arith in
    rw (e, f)

pub rest_all : (n : ℕ) → places n ≡ rest_from n (at 0 0)
unfolding places
rest_all n = from_diagonal n 0 n (omega arith)

pub rest_none : (n : ℕ) (p : Place) → n ≤ p.row → n ≤ p.column → rest_from n p ≡ []
unfolding rest_from columns rows
rest_none n p h l =
    let e : n - p.row ≡ 0 = omega arith in
    let f : n - suc p.column ≡ 0 = omega arith in
    rw (e, f)

down : (n i j : ℕ) → i + 1 < n → rest_from n (at i j) ≡ at i j ∷ rest_from n (at (i + 1) j)
unfolding rest_from rows
down n i j h =
    let e : n - i ≡ suc (n - (i + 1)) = omega arith in
    rw (e, add-one i)

last_of : (n i j : ℕ) → i < n → n ≤ i + 1 → rest_from n (at i j) ≡ at i j ∷ columns (n - suc j) (suc j)
unfolding rest_from rows
last_of n i j h l = let e : n - i ≡ 1 = omega arith in rw e

right : (n i j : ℕ) → i < n → n ≤ i + 1 → rest_from n (at i j) ≡ at i j ∷ rest_from n (at (j + 1) (j + 1))
right n i j h l =
    last_of n i j h l
    ∙ ap (λ (ps : List Place). at i j ∷ ps) (from_diagonal n (suc j) (n - suc j) refl)
    ∙ ap (λ (k : ℕ). at i j ∷ rest_from n (at k k)) (sym (add-one j))

pub rest_more : (n : ℕ) (p : Place) → p.row < n → rest_from n p ≡ p ∷ rest_from n (next_place n p)
rest_more n p h = ⊎_elim
    (λ l. rw (lt-ltb (p.row + 1) n l) (down n p.row p.column l))
    (λ l. rw (le-ltb (p.row + 1) n l) (right n p.row p.column h l))
    (lt_or_ge (p.row + 1) n)

-- ---- how many there are
pub length_rows : (m i j : ℕ) → length (rows m i j) ≡ m
unfolding rows
length_rows zero i j = refl
length_rows (suc m) i j = ap suc (length_rows m (suc i) j)

length_columns : (m j : ℕ) → m ≤ 64 → length (columns m j) ≤ 64 * m
unfolding columns
length_columns zero j h = omega arith
length_columns (suc m) j h =
    let shorter : length (columns m (suc j)) ≤ 64 * m = length_columns m (suc j) (omega arith) in
    let whole = length-append (rows (suc m) j j) (columns m (suc j)) in
    omega (arith, length_rows (suc m) j j)

pub length_places : (n : ℕ) → n ≤ 64 → length (places n) ≤ 4096
unfolding places
length_places n h = omega (arith, length_columns n 0 h)

-- a place of the square is one of its n·n cells
pub cell_inside : (n : ℕ) (p : Place) → p.row < n → p.column < n → cell n p < n * n
cell_inside n p r c = omega (arith, mul-add-lt p.column n p.row n c r)
