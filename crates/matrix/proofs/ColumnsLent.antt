-- Columns of a slice, lent and back.
--     column_long                             one column has n numbers
--     number_at                               number i of column j stands at j·n + i
--     part_is, put_part                       the part that is lent is the column; what comes back is another column there
--     group_within, group_long                c columns lie within the slice, and the part has c·n numbers
--     group_put                               what comes back is the loop over the c columns
use mathlib.Core.List.{List, ◌++◌, append_assoc}
use mathlib.Core.Path.{◌≡◌, refl, sym, ap, ◌∙◌}
use Prim.Native.Nat.{ℕ, zero, suc, ◌+◌, ◌-◌, ◌*◌, ◌<◌, ◌≤◌}
use native.Mathlib.Nat.{add-mul, suc-mul, mul-le-mul_right, mul_comm}
use native.Mathlib.Omega.{arith}
use lib.Ieee.{Float, nan}
use lib.ListN.{length, get_or, take, drop, take-append-drop, length-drop}
use lib.Seq.{length-take-le, get_or-take, get_or-drop, take-append-add, take-append-le, drop-append-add, drop-append-le}
use Rattle.matrix.specs.Loop.{turns, for}
use Rattle.matrix.specs.Columns.{at, column, at_column, each_column, Lined, ButColumn}
use Rattle.matrix.proofs.Columns.{column_within, column_length, column_replaced, at_long}
use Rattle.matrix.proofs.ColumnsLoops.{Keeping}

-- ---- one column

pub number_at : (n j : ℕ) (b : List Float) (i : ℕ) → i < n → get_or b (j * n + i) nan ≡ at (column n j b) i
unfolding column
number_at n j b i below = sym (get_or-take n (drop (j * n) b) i nan below ∙ get_or-drop (j * n) b i nan)

module _ {A : Type 0} (n j : ℕ) (b : List A) where
  span : j * n + n - j * n ≡ n
  span = omega arith

  pub part_is : take (j * n + n - j * n) (drop (j * n) b) ≡ column n j b
  unfolding column
  part_is = rw span

  pub column_long : (columns : ℕ) → Lined n columns b → j < columns → length (column n j b) ≡ n
  column_long columns lined below = column_length n j b (omega (arith, column_within n columns j below, lined.long))

  pub put_part
      : {columns : ℕ} → Lined n columns b → j < columns → {ys : List A} → length ys ≡ n
      → {b' : List A} → b' ≡ take (j * n) b ++ (ys ++ drop (j * n + n - j * n) (drop (j * n) b))
      → ButColumn n j b b' × (column n j b' ≡ ys)
  put_part {columns} lined below {ys} whole e = column_replaced n j b (omega (arith, column_within n columns j below, lined.long)) ys whole (e ∙ rw span refl)

-- ---- c columns from column j on

module _ {A : Type 0} {n columns : ℕ} {b : List A} (lined : Lined n columns b) (j c : ℕ) (below : j + c ≤ columns) where
  pub group_within : j * n + c * n ≤ length b
  group_within =
      let rows : (j + c) * n ≤ columns * n = mul-le-mul_right n below in
      omega (arith, add-mul j c n, mul_comm columns n, lined.long)

  pub group_long : length (take (j * n + c * n - j * n) (drop (j * n) b)) ≡ n * c
  group_long = length-take-le (j * n + c * n - j * n) (drop (j * n) b) (simp length-drop (omega (arith, group_within))) ∙ omega (arith, mul_comm c n)

module _ {A : Type 0} (n : ℕ) (f : List A → List A) (keeps : Keeping f) where
  -- a column of the part between `front` and `rest`
  at_part
      : (j i : ℕ) (front part rest : List A) → length front ≡ j * n → i * n + n ≤ length part
      → at_column n f (j + i) (front ++ (part ++ rest)) ≡ front ++ (at_column n f i part ++ rest)
  unfolding at_column column
  at_part j i front part rest before within =
      let place : (j + i) * n ≡ length front + i * n = add-mul j i n ∙ ap (λ (q : ℕ). q + i * n) (sym before) in
      let head : take ((j + i) * n) (front ++ (part ++ rest)) ≡ front ++ take (i * n) part =
      ap (λ (q : ℕ). take q (front ++ (part ++ rest))) place
      ∙ take-append-add front (part ++ rest) (i * n)
      ∙ ap (λ (l : List A). front ++ l) (take-append-le (i * n) part rest (omega arith)) in
      let tail : drop ((j + i) * n) (front ++ (part ++ rest)) ≡ drop (i * n) part ++ rest =
      ap (λ (q : ℕ). drop q (front ++ (part ++ rest))) place
      ∙ drop-append-add front (part ++ rest) (i * n)
      ∙ drop-append-le (i * n) part rest (omega arith) in
      let room : n ≤ length (drop (i * n) part) = simp length-drop (omega arith) in
      rw (head, tail, take-append-le n (drop (i * n) part) rest room, drop-append-le n (drop (i * n) part) rest room) (simp append_assoc)

  module _ (j : ℕ) (front part rest : List A) (before : length front ≡ j * n) where
    turned_long : (c : ℕ) → c * n ≤ length part → length (turns 0 (at_column n f) part c) ≡ length part
    unfolding turns
    turned_long zero h = refl
    turned_long (suc c) h =
        let here : c * n + n ≤ length part = omega (arith, suc-mul c n) in
        let long = turned_long c (omega arith) in
        let place : 0 + c ≡ c = omega arith in
        rw place (at_long n f keeps c (turns 0 (at_column n f) part c) (omega arith) ∙ long)

    turned
        : (c : ℕ) → c * n ≤ length part
        → turns j (at_column n f) (front ++ (part ++ rest)) c ≡ front ++ (turns 0 (at_column n f) part c ++ rest)
    unfolding turns
    turned zero h = refl
    turned (suc c) h =
        let here : c * n + n ≤ length part = omega (arith, suc-mul c n) in
        let long = turned_long c (omega arith) in
        let place : 0 + c ≡ c = omega arith in
        ap (at_column n f (j + c)) (turned c (omega arith)) ∙ rw place (at_part j c front (turns 0 (at_column n f) part c) rest before (omega arith))

  pub group_put
      : {columns : ℕ} {b : List A} → Lined n columns b → (j c : ℕ) → j + c ≤ columns
      → {ys : List A} → ys ≡ each_column n c f (take (j * n + c * n - j * n) (drop (j * n) b))
      → take (j * n) b ++ (ys ++ drop (j * n + c * n - j * n) (drop (j * n) b)) ≡ for j (j + c) (at_column n f) b
  unfolding each_column for turns
  group_put {b = b} lined j c below e =
      let size : ℕ = j * n + c * n - j * n in
      let none : c - 0 ≡ c = omega arith in
      let count : c ≡ j + c - j = omega arith in
      ap (λ (l : List A). take (j * n) b ++ (l ++ drop size (drop (j * n) b))) (e ∙ ap (turns 0 (at_column n f) (take size (drop (j * n) b))) none)
      ∙ sym (turned j (take (j * n) b) (take size (drop (j * n) b)) (drop size (drop (j * n) b))
      (length-take-le (j * n) b (omega (arith, group_within lined j c below)))
      c
      (omega (arith, group_long lined j c below, mul_comm c n)))
      ∙ ap (λ (l : List A). turns j (at_column n f) l c)
      (ap (λ (l : List A). take (j * n) b ++ l) (take-append-drop size (drop (j * n) b)) ∙ take-append-drop (j * n) b)
      ∙ ap (turns j (at_column n f) b) count
