-- A grid says which entries of a matrix a slice holds, and where each stands.
use Rattle.std.specs.Prelude.{◌≡◌, Bool, cond, List, ℕ, ◌<◌, T, length, get_or, Float}
use Rattle.std.specs.Float.{nan}
use Rattle.matrix.specs.Matrix.{Matrix}

pub record Grid : Type 0 where
  pub inside : ℕ → ℕ → Bool
  pub place : ℕ → ℕ → ℕ
  pub size : ℕ

-- each entry has a place of its own below the size; rows and columns are below `reach`
pub record Fair (g : Grid) : Type 0 where
  pub reach : ℕ
  pub low : (i j : ℕ) → T (g.inside i j) → i < reach
  pub left : (i j : ℕ) → T (g.inside i j) → j < reach
  pub within : (i j : ℕ) → T (g.inside i j) → g.place i j < g.size
  pub row : (i j r c : ℕ) → T (g.inside i j) → T (g.inside r c) → g.place i j ≡ g.place r c → i ≡ r
  pub column : (i j r c : ℕ) → T (g.inside i j) → T (g.inside r c) → g.place i j ≡ g.place r c → j ≡ c

-- the slice is one of the grid
pub record Sound (g : Grid) (l : List Float) : Type 0 where
  pub fair : Fair g
  pub long : length l ≡ g.size

-- the matrix that a slice holds: `nan` outside the grid
unfoldable pub load : Grid → List Float → Matrix
load g l i j = cond (g.inside i j) (get_or l (g.place i j) nan) nan

-- M within the grid, `nan` outside
unfoldable pub mask : Grid → Matrix → Matrix
mask g M i j = cond (g.inside i j) (M i j) nan

-- no entry stands at p
abbrev pub Free : Grid → ℕ → Type 0
Free g p = (i j : ℕ) → T (g.inside i j) → p ≡ g.place i j → ⊥

-- what is no entry is as it was
abbrev pub Kept : Grid → List Float → List Float → Type 0
Kept g l₀ l = (p : ℕ) → Free g p → get_or l p nan ≡ get_or l₀ p nan

-- l holds M, and all else is as in l₀
pub record Holds (g : Grid) (l₀ l : List Float) (M : Matrix) : Type 0 where
  pub sound : Sound g l
  pub cells : load g l ≡ M
  pub kept : Kept g l₀ l
