-- What a writer does: the text stands in the slice from a place on, as far as the slice has room; all else is kept.
use Rattle.std.specs.Prelude.{◌≡◌, List, ◌++◌, ℕ, ◌+◌, min, length, take, drop}

-- o before, o' after, r the place where the text ends
pub record Put (o : List ℕ) (at : ℕ) (text : List ℕ) (r : ℕ) (o' : List ℕ) : Type 0 where
  pub long : length o' ≡ length o
  pub ends : r ≡ min (at + length text) (length o)
  pub stands : take r o' ≡ take (length o) (take at o ++ text)
  pub kept : drop r o' ≡ drop r o
