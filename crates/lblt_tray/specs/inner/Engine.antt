-- What the parts of `tray` promise each other. The promise of `tray` does not rest on these.
use Rattle.std.specs.Prelude.{List, ◌≡◌, ℕ, ◌*◌, ◌≤◌, ◌<◌, Float, length}
use Rattle.matrix.specs.Columns.{Lined, ButColumn}
use Rattle.pivots.specs.Words.{words_of}
use Rattle.lblt_tray.specs.Tray.{matrix_at, record_at, side_at, number_at, ItemAt}

-- the slices of one item
pub record Item (n : ℕ) (a : List Float) (words : List ℕ) (b : List Float) : Type 0 where
  pub order : n ≤ 64
  pub matrix : length a ≡ n * n
  pub pivots : length words ≡ words_of n
  pub side : length b ≡ n

-- the slices of a tray
pub record Trayed (n count : ℕ) (a : List Float) (words : List ℕ) (b : List Float) (runs answers : List ℕ) : Type 0 where
  pub order : n ≤ 64
  pub matrices : Lined (n * n) count a
  pub records : Lined (words_of n) count words
  pub sides : Lined n count b
  pub numbered : length runs ≡ count
  pub answered : length answers ≡ count

-- item t is solved, all else is as it was
pub record OneSolved (n t : ℕ) (a : List Float) (words : List ℕ) (b : List Float) (runs answers : List ℕ) (a' : List Float) (words' : List ℕ) (b' : List Float) (answers' : List ℕ) : Type 0 where
  pub matrices : ButColumn (n * n) t a a'
  pub records : ButColumn (words_of n) t words words'
  pub sides : ButColumn n t b b'
  pub answered : length answers' ≡ length answers
  pub others : (i : ℕ) → (i ≡ t → ⊥) → number_at i answers' ≡ number_at i answers
  pub item : ItemAt n a words b runs a' words' b' answers' t

-- the items before t are solved, the parts of the others are as they were
pub record SolvedBefore (n t : ℕ) (a : List Float) (words : List ℕ) (b : List Float) (runs answers : List ℕ) (a' : List Float) (words' : List ℕ) (b' : List Float) (answers' : List ℕ) : Type 0 where
  pub matrices : length a' ≡ length a
  pub records : length words' ≡ length words
  pub sides : length b' ≡ length b
  pub answered : length answers' ≡ length answers
  pub before : (i : ℕ) → i < t → ItemAt n a words b runs a' words' b' answers' i
  pub matrices_left : (i : ℕ) → t ≤ i → matrix_at n i a' ≡ matrix_at n i a
  pub records_left : (i : ℕ) → t ≤ i → record_at n i words' ≡ record_at n i words
  pub sides_left : (i : ℕ) → t ≤ i → side_at n i b' ≡ side_at n i b
