-- The call beside the main engine's, entry by entry.
use Rattle.std.specs.Prelude.{◌≡◌, true, false, List, ℕ, ◌+◌, ◌*◌, ◌≤◌, ◌<◌, get_or, Float}
use Rattle.std.specs.Float.{nan}
use Rattle.answer.specs.Answer.{Answer, is_done}
use Rattle.answer.specs.Number.{place_of}

-- entry (i, c) of a room
abbrev pub entry_in : ℕ → List Float → ℕ → ℕ → Float
entry_in room l i c = get_or l (i + c * room) nan

-- Of an order up to 64 and the buffer l₀, the call is answered r and leaves l, the main engine's is answered w and leaves `whole`.
pub record BesideMain (room : ℕ) (l₀ l : List Float) (r : Answer) (whole : List Float) (w : Answer) : Type 0 where
  -- the same code and row
  pub answer : r ≡ w
  -- accepted: the same buffer
  pub accepted : is_done r ≡ true → l ≡ whole
  -- refused: up to the refused row and its diagonal the same; the rows below and what stands right of a diagonal as given
  pub upto : is_done r ≡ false → (i c : ℕ) → c ≤ i → i ≤ place_of r → entry_in room l i c ≡ entry_in room whole i c
  pub below : is_done r ≡ false → (i c : ℕ) → place_of r < i → i < room → entry_in room l i c ≡ entry_in room l₀ i c
  pub right : is_done r ≡ false → (i c : ℕ) → i < c → i < room → entry_in room l i c ≡ entry_in room l₀ i c
