-- What the writer of the page asks.
use Rattle.std.specs.Prelude.{List, ℕ, ◌*◌, ◌≤◌, Float, length}
use Rattle.pivots.specs.Words.{words_of}

pub record PutPage (n : ℕ) (words : List ℕ) (a : List Float) : Type 0 where
  pub small : n ≤ 64
  pub words_whole : words_of n ≤ length words
  pub cells_whole : n * n ≤ length a
