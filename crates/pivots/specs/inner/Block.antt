-- What a step at a block asks of the record.
use Rattle.std.specs.Prelude.{List, ◌≡◌, ℕ, ◌+◌, ◌-◌, ◌<◌, ◌≤◌, length}
use Rattle.pivots.specs.Words.{index_at, words_of}
use Rattle.pivots.specs.Blocks.{rows_of}

-- the block that starts at row k lies within the order, and so does its pivot
pub record BlockAt (n : ℕ) (words : List ℕ) (k : ℕ) : Type 0 where
  pub total : length words ≡ words_of n
  pub inside : k < n
  pub rows : k + rows_of words k ≤ n
  pub index : index_at words k < n

-- the same of the block that ends before row k
pub record BlockBefore (n : ℕ) (words : List ℕ) (k : ℕ) : Type 0 where
  pub total : length words ≡ words_of n
  pub inside : 0 < k
  pub rows : rows_of words (k - 1) ≤ k
  pub end : k ≤ n
  pub index : index_at words (k - 1) < n
