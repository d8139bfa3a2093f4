-- The grids of the project: the lower triangle of a layout and what stands above it, the upper triangle and the whole of a square matrix.
use Rattle.std.specs.Prelude.{◌≡◌, Bool, true, false, cond, ◌&&◌, List, ℕ, ◌+◌, ◌-◌, ◌*◌, ◌/◌, ◌≤◌, leb, ltb, length, Float}
use Rattle.matrix.specs.Matrix.{Matrix}
use Rattle.matrix.specs.Grid.{Grid, Sound, load}
use Rattle.matrix.specs.declared.Layout.{Layout}

-- a square matrix of order n
abbrev pub full : ℕ → Layout
full n = record { order = n; room = n; packed = false }

-- the first n rows and columns of a room
abbrev pub in_room : ℕ → ℕ → Layout
in_room n room = record { order = n; room = room; packed = false }

-- the lower triangle of order n and nothing else
abbrev pub packed : ℕ → Layout
packed n = record { order = n; room = n; packed = true }

-- the order is at most the room, and the room at most 1,024
pub record Roomy (y : Layout) : Type 0 where
  pub ordered : y.order ≤ y.room
  pub small : y.room ≤ 1024

-- how many entries the lower triangle of n rows has
unfoldable pub entries_of : ℕ → ℕ
entries_of n = n * (n + 1) / 2

-- entry (i, j) stands at i + start_of y j; packed, what would stand above the diagonal up to column j is left out
unfoldable pub start_of : Layout → ℕ → ℕ
unfolding entries_of
start_of y j = cond y.packed (j * y.room - entries_of j) (j * y.room)

-- how many numbers a slice of the layout has
unfoldable pub size_of : Layout → ℕ
unfolding entries_of
size_of y = cond y.packed (entries_of y.room) (y.room * y.room)

unfoldable pub in_lower : ℕ → ℕ → ℕ → Bool
in_lower n i j = leb j i && ltb i n

unfoldable pub place_in : Layout → ℕ → ℕ → ℕ
unfolding start_of
place_in y i j = i + start_of y j

unfoldable pub lower : Layout → Grid
unfolding in_lower place_in size_of
lower y = record { inside = in_lower y.order; place = place_in y; size = size_of y }

-- l is a slice of the layout y
pub record Laid (y : Layout) (l : List Float) : Type 0 where
  pub roomy : Roomy y
  pub sound : Sound (lower y) l

unfoldable pub in_strict : ℕ → ℕ → ℕ → Bool
in_strict n i j = ltb i j && ltb j n

-- above the diagonal, in the first rows and columns of a room that is not packed
unfoldable pub strict : Layout → Grid
unfolding in_strict place_in size_of
strict y = record { inside = in_strict y.order; place = place_in y; size = size_of y }

unfoldable pub in_upper : ℕ → ℕ → ℕ → Bool
in_upper n i j = leb i j && ltb j n

unfoldable pub in_square : ℕ → ℕ → ℕ → Bool
in_square n i j = ltb i n && ltb j n

unfoldable pub place_square : ℕ → ℕ → ℕ → ℕ
place_square n i j = i + j * n

unfoldable pub upper : ℕ → Grid
unfolding in_upper place_square
upper n = record { inside = in_upper n; place = place_square n; size = n * n }

unfoldable pub square : ℕ → Grid
unfolding in_square place_square
square n = record { inside = in_square n; place = place_square n; size = n * n }

-- the slice is the n·n matrix M and nothing else
pub record Fills (n : ℕ) (l : List Float) (M : Matrix) : Type 0 where
  pub long : length l ≡ n * n
  pub cells : load (square n) l ≡ M
