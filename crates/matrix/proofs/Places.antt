-- Where entries stand: the project's grids are fair, and what engines on plain offsets need of places.
-- Assumes nothing.
use mathlib.Core.Path.{◌≡◌, refl, sym, ◌∙◌, ap}
use mathlib.Core.Bool.{Bool, true, false, cond}
use mathlib.Core.List.{List}
use Prim.Native.Nat.{ℕ, ◌+◌, ◌-◌, ◌*◌, ◌/◌, ◌%◌, ◌≤◌, ◌<◌}
use native.Mathlib.Nat.{mod-eq_of_lt, add-mul-mod_self_right, add-mul-div_right, div-eq_of_lt, zero-add, mul-le-mul, mul-le-mul_right}
use native.Mathlib.Decide.{dec_lt}
use native.Mathlib.Omega.{arith}
use lib.Dec.{T, leb, ltb, leb→le, ltb→lt, le→leb, lt→ltb}
use lib.ListN.{length, get_or}
use lib.Ieee.{Float, nan}
use lib.Ieee.Fits.{and_l, and_r, and_i}
use Rattle.matrix.specs.declared.Layout.{Layout}
use Rattle.matrix.specs.Grid.{Grid, Fair, load, Free}
use Rattle.matrix.specs.Layouts.{in_room, Roomy, entries_of, start_of, size_of, in_lower, place_in, lower, in_strict, strict, in_upper, in_square, place_square, upper, square, Laid}
use Rattle.matrix.proofs.Grids.{load_in, PartOf}
use Rattle.matrix.proofs.Triangles.{one_more, entries_square, columns_apart, column_within_size}

-- ---- i + j·n with i below n

pub digits_row : (n i j r c : ℕ) → i < n → r < n → i + j * n ≡ r + c * n → i ≡ r
digits_row n i j r c below below' e =
    sym (mod-eq_of_lt below) ∙ sym (add-mul-mod_self_right i j n) ∙ ap (λ (x : ℕ). x % n) e ∙ add-mul-mod_self_right r c n ∙ mod-eq_of_lt below'

pub digits_column : (n i j r c : ℕ) → i < n → r < n → i + j * n ≡ r + c * n → j ≡ c
digits_column n i j r c below below' e =
    let positive : 0 < n = omega arith in
    quotient n i j below positive ∙ ap (λ (x : ℕ). x / n) e ∙ sym (quotient n r c below' positive)
  where
    quotient : (n i j : ℕ) → i < n → 0 < n → j ≡ (i + j * n) / n
    quotient n i j below positive = sym (add-mul-div_right i j positive ∙ ap (λ (x : ℕ). x + j) (div-eq_of_lt below) ∙ zero-add j)

pub digits_within : (n m i j : ℕ) → i < n → j < m → i + j * n < m * n
digits_within n m i j below below' =
    let row : (j + 1) * n ≤ m * n = mul-le-mul_right n (omega arith) in
    let split = one_more j n in
    omega arith

-- ---- an entry of the lower triangle, by plain comparisons

pub lower_low : (y : Layout) (i j : ℕ) → T ((lower y).inside i j) → i < y.order
unfolding lower in_lower
lower_low y i j t = ltb→lt i y.order (and_r (leb j i) (ltb i y.order) t)

pub lower_under : (y : Layout) (i j : ℕ) → T ((lower y).inside i j) → j ≤ i
unfolding lower in_lower
lower_under y i j t = leb→le j i (and_l (leb j i) (ltb i y.order) t)

pub lower_left : (y : Layout) (i j : ℕ) → T ((lower y).inside i j) → j < y.order
lower_left y i j t = let low = lower_low y i j t in let under = lower_under y i j t in omega arith

-- ---- the grids are fair

-- two places of a layout that are the same are in one column
one_column_at : (y : Layout) (i j r c : ℕ) → Roomy y → j ≤ i → i < y.order → c ≤ r → r < y.order → i + start_of y j ≡ r + start_of y c → j ≡ c
one_column_at y i j r c roomy low inside low' inside' e = pick (dec_lt j c) (dec_lt c j)
  where
    pick : Dec (j < c) → Dec (c < j) → j ≡ c
    pick (yes left) right = absurd (let apart = columns_apart y j c left (omega arith) in omega arith)
    pick (no left) (yes right) = absurd (let apart = columns_apart y c j right (omega arith) in omega arith)
    pick (no left) (no right) = omega (arith, left, right)

pub lower_fair : (y : Layout) → Roomy y → Fair (lower y)
unfolding lower place_in size_of
lower_fair y roomy = record {
  reach = y.order;
  low = lower_low y;
  left = lower_left y;
  within = λ i j t. let low = lower_low y i j t in let left = lower_left y i j t in column_within_size y i j (omega arith) (omega arith);
  row = λ i j r c t u e. let same : start_of y j ≡ start_of y c = ap (start_of y) (column i j r c t u e) in omega arith;
  column = column;
}
  where
    column : (i j r c : ℕ) → T ((lower y).inside i j) → T ((lower y).inside r c) → i + start_of y j ≡ r + start_of y c → j ≡ c
    column i j r c t u e = one_column_at y i j r c roomy (lower_under y i j t) (lower_low y i j t) (lower_under y r c u) (lower_low y r c u) e

-- any grid of rows and columns below n at i + j·n
square_like : (n : ℕ) (g : Grid) → ((i j : ℕ) → T (g.inside i j) → (i < n) × (j < n)) → ((i j : ℕ) → g.place i j ≡ i + j * n) → g.size ≡ n * n → Fair g
square_like n g both place size = record {
  reach = n;
  low = λ i j t. (both i j t).0;
  left = λ i j t. (both i j t).1;
  within = λ i j t. rw (place i j, size) (digits_within n n i j (both i j t).0 (both i j t).1);
  row = λ i j r c t u e. digits_row n i j r c (both i j t).0 (both r c u).0 (sym (place i j) ∙ e ∙ place r c);
  column = λ i j r c t u e. digits_column n i j r c (both i j t).0 (both r c u).0 (sym (place i j) ∙ e ∙ place r c);
}

pub square_fair : (n : ℕ) → Fair (square n)
unfolding square in_square place_square
square_fair n = square_like n (square n) (λ i j t. (ltb→lt i n (and_l (ltb i n) (ltb j n) t), ltb→lt j n (and_r (ltb i n) (ltb j n) t))) (λ i j. refl) refl

-- an entry above the diagonal, by plain comparisons
pub strict_low : (y : Layout) (i j : ℕ) → T ((strict y).inside i j) → i < j
unfolding strict in_strict
strict_low y i j t = ltb→lt i j (and_l (ltb i j) (ltb j y.order) t)

pub strict_left : (y : Layout) (i j : ℕ) → T ((strict y).inside i j) → j < y.order
unfolding strict in_strict
strict_left y i j t = ltb→lt j y.order (and_r (ltb i j) (ltb j y.order) t)

pub in_strict_law : (y : Layout) (i j : ℕ) → i < j → j < y.order → T ((strict y).inside i j)
unfolding strict in_strict
in_strict_law y i j low left = and_i (ltb i j) (ltb j y.order) (lt→ltb i j low) (lt→ltb j y.order left)

-- in a room that is not packed
pub plain_start : (y : Layout) → y.packed ≡ false → (j : ℕ) → start_of y j ≡ j * y.room
unfolding start_of
plain_start y plain j = rw plain refl

pub strict_fair : (y : Layout) → y.packed ≡ false → Roomy y → Fair (strict y)
unfolding strict place_in size_of
strict_fair y plain roomy =
    square_like y.room (strict y) (λ i j t. let low = strict_low y i j t in let left = strict_left y i j t in (omega arith, omega arith))
    (λ i j. ap (λ (s : ℕ). i + s) (plain_start y plain j)) (rw plain refl)

-- ---- entries by plain comparisons

pub in_lower_law : (y : Layout) (i j : ℕ) → j ≤ i → i < y.order → T ((lower y).inside i j)
unfolding lower in_lower
in_lower_law y i j le lt = and_i (leb j i) (ltb i y.order) (le→leb j i le) (lt→ltb i y.order lt)

pub in_upper_law : (n i j : ℕ) → i ≤ j → j < n → T ((upper n).inside i j)
unfolding upper in_upper
in_upper_law n i j le lt = and_i (leb i j) (ltb j n) (le→leb i j le) (lt→ltb j n lt)

pub in_square_law : (n i j : ℕ) → i < n → j < n → T ((square n).inside i j)
unfolding square in_square
in_square_law n i j row column = and_i (ltb i n) (ltb j n) (lt→ltb i n row) (lt→ltb j n column)

pub lower_place_law : (y : Layout) (i j : ℕ) → (lower y).place i j ≡ i + start_of y j
unfolding lower place_in
lower_place_law y i j = refl

pub square_place : (n i j : ℕ) → (square n).place i j ≡ i + j * n
unfolding square place_square
square_place n i j = refl

pub lower_at : (y : Layout) (l : List Float) (i j : ℕ) → j ≤ i → i < y.order → load (lower y) l i j ≡ get_or l (i + start_of y j) nan
unfolding lower place_in
lower_at y l i j le lt = load_in (lower y) l i j (in_lower_law y i j le lt)

-- an entry stands at one place in every order
pub lower_across : (room c d : ℕ) (l : List Float) (i j : ℕ) → j ≤ i → i < c → i < d
    → load (lower (in_room c room)) l i j ≡ load (lower (in_room d room)) l i j
unfolding start_of
lower_across room c d l i j le here there = lower_at (in_room c room) l i j le here ∙ sym (lower_at (in_room d room) l i j le there)

-- what is no entry of the first m rows of a room
pub free_at : (room m i j : ℕ) → m ≤ room → i < room → (j ≤ i → i < m → ⊥) → Free (lower (in_room m room)) (i + j * room)
unfolding start_of place_in lower
free_at room m i j small under off r c t e =
    let low : r < m = lower_low (in_room m room) r c t in
    let left : c ≤ r = lower_under (in_room m room) r c t in
    let row : i ≡ r = digits_row room i j r c under (omega arith) e in
    let column : j ≡ c = digits_column room i j r c under (omega arith) e in
    off (omega arith) (omega arith)

-- the first c rows of a room are a part of its first n
pub rows_part : (room c n : ℕ) → c ≤ n → Roomy (in_room n room) → PartOf (lower (in_room c room)) (lower (in_room n room))
unfolding start_of place_in size_of lower
rows_part room c n le roomy = record {
  fair = let ordered = roomy.ordered in lower_fair (in_room c room) (record { ordered = omega arith; small = roomy.small });
  size = refl;
  inside = λ i j t. let low = lower_low (in_room c room) i j t in in_lower_law (in_room n room) i j (lower_under (in_room c room) i j t) (omega arith);
  place = λ i j t. refl;
}

pub upper_at : (n : ℕ) (l : List Float) (i j : ℕ) → i ≤ j → j < n → load (upper n) l i j ≡ get_or l (i + j * n) nan
unfolding upper place_square
upper_at n l i j le lt = load_in (upper n) l i j (in_upper_law n i j le lt)

pub square_at : (n : ℕ) (l : List Float) (i j : ℕ) → i < n → j < n → load (square n) l i j ≡ get_or l (i + j * n) nan
unfolding square place_square
square_at n l i j row column = load_in (square n) l i j (in_square_law n i j row column)

-- ---- offsets within a layout

-- the product of two numbers up to 1,024
pub product_small : (n m : ℕ) → n ≤ 1024 → m ≤ 1024 → n * m ≤ 1048576
product_small n m h g = mul-le-mul {n₁ = n} {m₁ = m} {n₂ = 1024} {m₂ = 1024} h g

pub entries_small : (n : ℕ) → n ≤ 1024 → entries_of n ≤ 1048576
entries_small n small = let square = entries_square n in let product = product_small n n small small in omega arith

pub start_small : (y : Layout) (j : ℕ) → Roomy y → j ≤ y.order → start_of y j ≤ 1048576
unfolding start_of
start_small y j roomy below = by y.packed (product_small j y.room (omega arith) (omega arith))
  where
    by : (b : Bool) → j * y.room ≤ 1048576 → cond b (j * y.room - entries_of j) (j * y.room) ≤ 1048576
    by true small = omega arith
    by false small = small

pub lower_within : (y : Layout) (l : List Float) (i j : ℕ) → Laid y l → j ≤ i → i < y.order → i + start_of y j < length l
unfolding lower place_in
lower_within y l i j laid le lt = rw laid.sound.long (laid.sound.fair.within i j (in_lower_law y i j le lt))
