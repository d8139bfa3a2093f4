-- Where the words of a pivot record of order n stand: index and size of each row, then the mark (0, or the marked row + 1), then the run number.
use Rattle.std.specs.Prelude.{List, ℕ, ◌+◌, ◌*◌, ◌≤◌, ◌≡◌, length, get_or, set}

abbrev pub index_word : ℕ → ℕ
index_word row = 2 * row

abbrev pub size_word : ℕ → ℕ
size_word row = 2 * row + 1

abbrev pub mark_word : ℕ → ℕ
mark_word n = 2 * n

abbrev pub run_word : ℕ → ℕ
run_word n = 2 * n + 1

abbrev pub words_of : ℕ → ℕ
words_of n = 2 * n + 2

abbrev pub index_at : List ℕ → ℕ → ℕ
index_at words row = get_or words (index_word row) 0

abbrev pub size_at : List ℕ → ℕ → ℕ
size_at words row = get_or words (size_word row) 0

abbrev pub mark_at : ℕ → List ℕ → ℕ
mark_at n words = get_or words (mark_word n) 0

abbrev pub run_at : ℕ → List ℕ → ℕ
run_at n words = get_or words (run_word n) 0

-- an order that is allowed, and as many words as it has
pub record Sized (n : ℕ) (words : List ℕ) : Type 0 where
  pub order : n ≤ 1024
  pub total : length words ≡ words_of n

-- the words after (index, size) is written for a row
unfoldable pub paired : List ℕ → ℕ → ℕ → ℕ → List ℕ
paired words row index size = set (set words (index_word row) index) (size_word row) size

-- the words after the mark is written
unfoldable pub marked : ℕ → List ℕ → ℕ → List ℕ
marked n words mark = set words (mark_word n) mark

-- the words after the run number is written
unfoldable pub stamped : ℕ → List ℕ → ℕ → List ℕ
stamped n words run = set words (run_word n) run
