-- What the engines ask of a lent matrix.
use Rattle.std.specs.Prelude.{List, ◌≡◌, ℕ, ◌*◌, ◌≤◌, Float, length}

-- n·n numbers
pub record Squared (n : ℕ) (l : List Float) : Type 0 where
  pub small : n ≤ 1024
  pub long : length l ≡ n * n
