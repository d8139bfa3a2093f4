-- What `first_twin_since` answers: of the pairs of twin rows p < q with q at or after m, the one with the least q and then the least p.
use Rattle.std.specs.Prelude.{◌≡◌, ℕ, ◌<◌, ◌≤◌, true, List, Float, Option, None, Some, Result, Err, IsOkAnd}
use Rattle.answer.specs.declared.Refusal.{Refusal}
use Rattle.answer.specs.Answer.{Answer, is_done}
use Rattle.matrix.specs.Matrix.{Matrix}
use Rattle.matrix.specs.Grid.{load}
use Rattle.matrix.specs.Layouts.{in_room, lower}
use Rattle.matrix.specs.Sizes.{sizes_of}
use Rattle.matrix.specs.declared.Layout.{Layout}
use Rattle.twins.specs.declared.Pair.{Pair}
use Rattle.twins.specs.Twins.{Twins}

-- none of the rows from m to before q is the twin of a row before it
abbrev pub NoneBetween : ℕ → Matrix → ℕ → ℕ → Type 0
NoneBetween n M m q = (r s : ℕ) → r < s → m ≤ s → s < q → Twins n M r s → ⊥

-- no row before p is row q's twin
abbrev pub NoneBefore : ℕ → Matrix → ℕ → ℕ → Type 0
NoneBefore n M p q = (r : ℕ) → r < p → Twins n M r q → ⊥

pub record FirstPair (n : ℕ) (M : Matrix) (m p q : ℕ) : Type 0 where
  pub apart : p < q
  pub since : m ≤ q
  pub within : q < n
  pub twins : Twins n M p q
  pub least : NoneBetween n M m q
  pub nearest : NoneBefore n M p q

-- what a search answers
abbrev pub Found : Type 0
Found = Result (Option Pair) Refusal

pub data First (n : ℕ) (M : Matrix) (m : ℕ) : Option Pair → Type 0 where
  none : NoneBetween n M m n → First n M m None
  pair : {p q : ℕ} → FirstPair n M m p q → First n M m (Some (record { first = p; second = q }))

-- the matrix of the first n rows in a room
abbrev pub rows_in : ℕ → ℕ → List Float → Matrix
rows_in room n l = load (lower (in_room n room)) l

-- a refusal by size, or the first pair of the lower triangle of a layout whose second row is at or after m
pub record FirstTwinOn (y : Layout) (m : ℕ) (l : List Float) (r : Found) : Type 0 where
  pub refused : {refusal : Refusal} → sizes_of y m l ≡ Err refusal → r ≡ Err refusal
  pub found : is_done (sizes_of y m l) ≡ true → IsOkAnd r (First y.order (load (lower y) l) m)

-- the same in a room: the refusal by size, or done; and the promise
abbrev pub size_answer : List Float → ℕ → ℕ → ℕ → Answer
size_answer l room m n = sizes_of (in_room n room) m l

abbrev pub FirstTwinSince : List Float → ℕ → ℕ → ℕ → Found → Type 0
FirstTwinSince l room m n r = FirstTwinOn (in_room n room) m l r

-- `first_twin` looks from row 0 on
abbrev pub FirstTwin : List Float → ℕ → ℕ → Found → Type 0
FirstTwin l room n r = FirstTwinSince l room 0 n r
