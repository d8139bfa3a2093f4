-- Batches of rows that are asked for twins as they come, each before it is taken.
use Rattle.std.specs.Prelude.{◌≡◌, ℕ, ◌≤◌, List, Float, None, Some, Ok}
use Rattle.twins.specs.First.{Found, FirstTwinSince, rows_in}

-- Over a rising list of cuts, n rows came and stand in l, in a room; each batch, asked from the rows before it on, was answered none.
-- A batch may have no rows. Rows that stand are kept; the room may change.
pub data Clear : ℕ → ℕ → List Float → Type 0 where
  none : {room : ℕ} {l : List Float} → Clear room 0 l
  more : {room m : ℕ} {l : List Float} {room' n : ℕ} {l' : List Float} → Clear room m l → m ≤ n → rows_in room' m l' ≡ rows_in room m l → FirstTwinSince l' room' m n (Ok None)
      → Clear room' n l'

-- the batch from row m on is told of p and q, or of an earlier pair
pub record ToldOf (m p q : ℕ) (r : Found) : Type 0 where
  pub first : ℕ
  pub second : ℕ
  pub pair : r ≡ Ok (Some (record { first = first; second = second }))
  pub since : m ≤ second
  pub upto : second ≤ q
  pub nearest : second ≡ q → first ≤ p
