-- What the parts of `respond` ask and promise.
use Rattle.std.specs.Prelude.{◌≡◌, List, ℕ, ◌*◌, ◌≤◌, Float, length}
use Rattle.matrix.specs.Grid.{load}
use Rattle.matrix.specs.Layouts.{full, lower}
use Rattle.pivots.specs.Words.{words_of}
use Rattle.sheet_page.specs.Put.{Put}
use Rattle.sheet.specs.Respond.{page_from, empty_room, empty_words}

-- n·n numbers and the words of a record
pub record Square (n : ℕ) (a : List Float) (words : List ℕ) : Type 0 where
  pub small : n ≤ 64
  pub long : length a ≡ n * n
  pub sized : length words ≡ words_of n

abbrev pub Writes : ℕ → List Float → List ℕ → List ℕ → ℕ → List ℕ → Type 0
Writes n a words o r o' = Put o 0 (page_from n (load (lower (full n)) a) words) r o'

-- room that holds nothing yet
pub record Empty (a : List Float) (words : List ℕ) : Type 0 where
  pub room : a ≡ empty_room
  pub record_words : words ≡ empty_words
