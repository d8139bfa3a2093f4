-- Engines that speak of the grid alone: what comes back of a call on a slice, and the matrix that it leaves, are told by the answer of the
-- tests of size, by the order and by the matrix. Where an entry stands they are not told.
use Rattle.std.specs.Prelude.{◌≡◌, List, ℕ, ◌*◌, length, Float}
use Rattle.answer.specs.Answer.{Answer}
use Rattle.answer.specs.Refusals.{Leaving}
use Rattle.matrix.specs.declared.Layout.{Layout}
use Rattle.matrix.specs.Matrix.{Matrix}
use Rattle.matrix.specs.Grid.{load, Holds}
use Rattle.matrix.specs.Layouts.{full, packed, entries_of, lower}
use Rattle.matrix.specs.Sizes.{sizes_of}

-- `Back` is what comes back: the answer, and what else is lent
pub record Engine (Back : Type 0) : Type 0 where
  pub back : Answer → ℕ → Matrix → Back
  pub cells : ℕ → Matrix → Matrix

-- A call by an engine on a slice l of a layout, the first m rows of which came earlier, gives `back` and leaves l'.
pub record Works {Back : Type 0} (engine : Engine Back) (y : Layout) (m : ℕ) (l : List Float) (back : Back) (l' : List Float) : Type 0 where
  pub comes : back ≡ engine.back (sizes_of y m l) y.order (load (lower y) l)
  pub leaves : Leaving (sizes_of y m l) (Holds (lower y) l l' (engine.cells y.order (load (lower y) l))) (l' ≡ l)

-- What a call promises over layouts speaks of the grid alone: it is what some engine does.
pub record GridAlone {Back : Type 0} (m : ℕ) (Promise : Layout → List Float → Back → List Float → Type 0) : Type 0 where
  pub engine : Engine Back
  pub works : (y : Layout) (l : List Float) (back : Back) (l' : List Float) → Promise y l back l' → Works engine y m l back l'

-- Slices of two layouts of one order that hold the same matrix, and pass or fail the tests of size alike.
pub record Alike (y z : Layout) (m : ℕ) (l k : List Float) : Type 0 where
  pub order : y.order ≡ z.order
  pub sizes : sizes_of y m l ≡ sizes_of z m k
  pub cells : load (lower y) l ≡ load (lower z) k

-- a holds, in n·n numbers, the lower triangle that p packs
pub record Unpacks (n : ℕ) (p a : List Float) : Type 0 where
  pub triangle : length p ≡ entries_of n
  pub whole : length a ≡ n * n
  pub cells : load (lower (packed n)) p ≡ load (lower (full n)) a
