-- A packed triangle: how many entries its rows have, and where its columns stand.
--   entries_next  entries_twice  entries_square  entries_rise   n·(n + 1)/2 without the division, and its order
--   columns_apart  column_within_size                           a column ends before the next begins, and within the slice
--   packed_column                                               the same of a packed triangle
--   start_halved  document_start                                one form of a start for all layouts, and document 02's
--   packed_entry                                                every place is an entry's
-- Assumes nothing.
use mathlib.Core.Path.{◌≡◌, refl, ◌∙◌, ap, subst}
use mathlib.Core.Bool.{Bool, true, false, cond}
use mathlib.Core.Logic.{◌⊎◌, inl, inr, ⊎_elim}
use Prim.Native.Nat.{ℕ, zero, suc, ◌+◌, ◌-◌, ◌*◌, ◌/◌, ◌≤◌, ◌<◌}
use native.Mathlib.Nat.{mul_comm, mul-add, suc-mul, mul-le-mul_left, mul-le-mul_right, eq-or-lt_of_le}
use native.Mathlib.Numerals.{add-one}
use native.Mathlib.Decide.{dec_lt}
use native.Mathlib.Omega.{arith}
use Rattle.matrix.specs.declared.Layout.{Layout}
use Rattle.matrix.specs.Layouts.{packed, entries_of, start_of, size_of}
use Rattle.matrix.specs.inner.Starts.{left_out}

pub one_more : (n m : ℕ) → (n + 1) * m ≡ n * m + m
one_more n m = rw add-one (suc-mul n m)

-- ---- how many entries

pub entries_next : (n : ℕ) → entries_of (n + 1) ≡ entries_of n + (n + 1)
unfolding entries_of
entries_next n =
    let square : (n + 1) * (n + 1) ≡ n * (n + 1) + (n + 1) = one_more n (n + 1) in
    let product : (n + 1) * (n + 1 + 1) ≡ (n + 1) * (n + 1) + (n + 1) = mul_comm (n + 1) (n + 1 + 1) ∙ one_more (n + 1) (n + 1) in
    omega arith

pub entries_twice : (n : ℕ) → 2 * entries_of n ≡ n * n + n
unfolding entries_of
entries_twice zero = refl
entries_twice (suc n) =
    subst (λ (m : ℕ). 2 * entries_of m ≡ m * m + m) (add-one n)
    (let so = entries_twice n in
    let next = entries_next n in
    let square : (n + 1) * (n + 1) ≡ n * (n + 1) + (n + 1) = one_more n (n + 1) in
    let product : n * (n + 1) ≡ n * n + n = mul_comm n (n + 1) ∙ one_more n n in
    omega arith)

pub entries_square : (n : ℕ) → entries_of n ≤ n * n
entries_square zero = unfold entries_of in omega arith
entries_square (suc n) =
    let twice = entries_twice (suc n) in
    let more : suc n * suc n ≡ n * suc n + suc n = suc-mul n (suc n) in
    omega arith

-- the rows before m have no more entries than those before n
pub entries_rise : (m n : ℕ) → m ≤ n → entries_of m ≤ entries_of n
entries_rise m n le =
    let first = entries_twice m in
    let last = entries_twice n in
    let left : m * m ≤ m * n = mul-le-mul_left m le in
    let right : m * n ≤ n * n = mul-le-mul_right n le in
    omega arith

-- in columns of n numbers there is room for what a packed triangle leaves out
pub entries_fit : (j n : ℕ) → j ≤ n → entries_of j ≤ j * n
entries_fit j n le =
    let square = entries_square j in
    let more : j * j ≤ j * n = mul-le-mul_left j le in
    omega arith

-- ---- where columns stand

-- in a triangle of order n: column j ends where the next begins
packed_next : (n j : ℕ) → j < n → j + 1 + ((j + 1) * n - entries_of (j + 1)) ≡ n + (j * n - entries_of j)
packed_next n j below =
    let more = one_more j n in
    let next = entries_next j in
    let fit = entries_fit j n (omega arith) in
    let fit' = entries_fit (j + 1) n (omega arith) in
    omega arith

packed_apart : (n k j : ℕ) → k < j → j ≤ n → n + (k * n - entries_of k) ≤ j + (j * n - entries_of j)
packed_apart n k zero before upto = absurd (omega arith)
packed_apart n k (suc j) before upto =
    subst (λ (m : ℕ). n + (k * n - entries_of k) ≤ m + (m * n - entries_of m)) (add-one j)
    (let next = packed_next n j (omega arith) in
    ⊎_elim
    (λ (same : k ≡ j). rw same (omega arith))
    (λ (less : k < j). let rest = packed_apart n k j less (omega arith) in omega arith)
    (eq-or-lt_of_le (let h : k ≤ j = omega arith in h)))

square_apart : (n k j : ℕ) → k < j → n + k * n ≤ j + j * n
square_apart n k j before =
    let whole : (k + 1) * n ≤ j * n = mul-le-mul_right n (omega arith) in
    let split = one_more k n in
    omega arith

-- column k ends before row j of a later column j
pub columns_apart : (y : Layout) (k j : ℕ) → k < j → j ≤ y.room → y.room + start_of y k ≤ j + start_of y j
unfolding start_of
columns_apart y k j before upto = by y.packed
  where
    by : (b : Bool) → y.room + cond b (k * y.room - entries_of k) (k * y.room) ≤ j + cond b (j * y.room - entries_of j) (j * y.room)
    by true = packed_apart y.room k j before upto
    by false = square_apart y.room k j before

-- the last column of a packed triangle ends with the slice
packed_end : (n : ℕ) → n + (n * n - entries_of n) ≡ entries_of n
packed_end n =
    let twice = entries_twice n in
    let square = entries_square n in
    omega arith

-- a column lies within the slice
pub column_within_size : (y : Layout) (i j : ℕ) → i < y.room → j < y.room → i + start_of y j < size_of y
unfolding start_of size_of
column_within_size y i j row column = by y.packed
  where
    by : (b : Bool) → i + cond b (j * y.room - entries_of j) (j * y.room) < cond b (entries_of y.room) (y.room * y.room)
    by true =
        let apart = packed_apart y.room j y.room column (omega arith) in
        let end = packed_end y.room in
        omega arith
    by false =
        let whole : (j + 1) * y.room ≤ y.room * y.room = mul-le-mul_right y.room (omega arith) in
        let split = one_more j y.room in
        omega arith

-- a column of a packed triangle ends within the slice
pub packed_column : (n j : ℕ) → j < n → n + start_of (packed n) j ≤ entries_of n
unfolding size_of
packed_column n j below = let last = column_within_size (packed n) (n - 1) j (omega arith) below in omega arith

-- twice a start is a product
packed_twice : (n j : ℕ) → j ≤ n → j * (2 * n - (j + 1)) ≡ 2 * (j * n - entries_of j)
packed_twice n zero upto = unfold entries_of in omega arith
packed_twice n (suc i) upto =
    let j : ℕ = suc i in
    let rest : ℕ = 2 * n - (j + 1) in
    let sum : rest + (j + 1) ≡ n + n = omega arith in
    let split : j * (rest + (j + 1)) ≡ j * rest + j * (j + 1) = mul-add j rest (j + 1) in
    let both : j * (n + n) ≡ j * n + j * n = mul-add j n n in
    let same : j * (rest + (j + 1)) ≡ j * (n + n) = ap (λ (x : ℕ). j * x) sum in
    let product : j * (j + 1) ≡ j * j + j = mul_comm j (j + 1) ∙ one_more j j in
    let twice = entries_twice j in
    let fit = entries_fit j n upto in
    omega arith

-- so it is half of one, in every layout
pub start_halved : (y : Layout) (j : ℕ) → j ≤ y.room → j * (2 * y.room - left_out y j) / 2 ≡ start_of y j
unfolding start_of left_out
start_halved y j upto = by y.packed
  where
    by : (b : Bool) → j * (2 * y.room - cond b (j + 1) 0) / 2 ≡ cond b (j * y.room - entries_of j) (j * y.room)
    by true = let twice = packed_twice y.room j upto in omega arith
    by false =
        let none : 2 * y.room - 0 ≡ y.room + y.room = omega arith in
        let same : j * (2 * y.room - 0) ≡ j * (y.room + y.room) = ap (λ (x : ℕ). j * x) none in
        let both : j * (y.room + y.room) ≡ j * y.room + j * y.room = mul-add j y.room y.room in
        omega arith

-- document 02: entry (i, j) at i + j·(2n − j − 1)/2
pub document_start : (n j : ℕ) → j < n → start_of (packed n) j ≡ j * (2 * n - j - 1) / 2
unfolding start_of
document_start n j below =
    let twice = packed_twice n j (omega arith) in
    let form : j * (2 * n - j - 1) ≡ j * (2 * n - (j + 1)) = ap (λ (x : ℕ). j * x) (omega arith) in
    omega arith

-- ---- every place of a packed triangle is an entry's

-- the entry at p
pub record Stands (n p : ℕ) : Type 0 where
  pub row : ℕ
  pub column : ℕ
  pub low : column ≤ row
  pub inside : row < n
  pub place : p ≡ row + start_of (packed n) column

-- the columns before c
before_column : (n p c : ℕ) → c ≤ n → p < c + (c * n - entries_of c) → Stands n p
unfolding start_of
before_column n p zero upto below = absurd (let none : 0 * n ≡ 0 = omega arith in omega arith)
before_column n p (suc c) upto below =
    ⊎_elim
    (λ (less : p < c + (c * n - entries_of c)). before_column n p c (omega arith) less)
    (λ (past : c + (c * n - entries_of c) ≤ p).
    record {
      row = p - (c * n - entries_of c);
      column = c;
      low = omega arith;
      inside =
          (let next = packed_next n c (omega arith) in
          let below' : p < c + 1 + ((c + 1) * n - entries_of (c + 1)) = rw add-one below in
          omega arith);
      place = omega arith;
    })
    (less? p (c + (c * n - entries_of c)))
  where
    less? : (a b : ℕ) → (a < b) ⊎ (b ≤ a)
    less? a b = pick (dec_lt a b)
      where
        pick : Dec (a < b) → (a < b) ⊎ (b ≤ a)
        pick (yes h) = inl h
        pick (no h) = inr (omega (arith, h))

pub packed_entry : (n p : ℕ) → p < entries_of n → Stands n p
packed_entry n p below = before_column n p n (omega arith) (let end = packed_end n in omega arith)
