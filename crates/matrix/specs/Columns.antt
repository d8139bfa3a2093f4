-- A slice of columns, n numbers each, one after the other; numbers of any type.
use Rattle.std.specs.Prelude.{Bool, cond, List, ◌++◌, ◌≡◌, ℕ, ◌*◌, ◌≤◌, Float, length, get_or, take, drop}
use Rattle.std.specs.Float.{nan}
use Rattle.matrix.specs.Loop.{for}

-- number i of a column
abbrev pub at : List Float → ℕ → Float
at b i = get_or b i nan

-- the numbers of column j
unfoldable pub column : {A : Type 0} → ℕ → ℕ → List A → List A
column n j b = take n (drop (j * n) b)

-- f applied to column j
unfoldable pub at_column : {A : Type 0} → ℕ → (List A → List A) → ℕ → List A → List A
unfolding column
at_column n f j b = take (j * n) b ++ (f (column n j b) ++ drop n (drop (j * n) b))

-- f applied to each of the columns
unfoldable pub each_column : {A : Type 0} → ℕ → ℕ → (List A → List A) → List A → List A
unfolding at_column
each_column n columns f b = for 0 columns (at_column n f) b

-- f applied to column j, if it is chosen
unfoldable pub at_chosen : {A : Type 0} → ℕ → (ℕ → Bool) → (List A → List A) → ℕ → List A → List A
at_chosen n chosen f j b = cond (chosen j) (at_column n f j b) b

-- f applied to each of the columns that are chosen
unfoldable pub each_chosen : {A : Type 0} → ℕ → ℕ → (ℕ → Bool) → (List A → List A) → List A → List A
each_chosen n columns chosen f b = for 0 columns (at_chosen n chosen f) b

-- a slice of columns of n numbers
pub record Lined {A : Type 0} (n columns : ℕ) (b : List A) : Type 0 where
  pub few : columns ≤ 1024
  pub long : length b ≡ n * columns

-- b' is b but for column j
pub record ButColumn {A : Type 0} (n j : ℕ) (b b' : List A) : Type 0 where
  pub long : length b' ≡ length b
  pub others : (i : ℕ) → (i ≡ j → ⊥) → column n i b' ≡ column n i b
