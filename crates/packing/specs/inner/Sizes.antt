-- What the parts of a batch have in length.
use Rattle.std.specs.Prelude.{List, ◌≡◌, ℕ, ◌≤◌, length, Float}
use Rattle.matrix.specs.Layouts.{entries_of}
use Rattle.packing.specs.Joined.{row_start}

-- the rows from m to n, and a packed buffer of order n
pub record NewRows (m n : ℕ) (rows fresh : List Float) : Type 0 where
  pub rising : m ≤ n
  pub small : n ≤ 1024
  pub long : length rows ≡ row_start m n
  pub room : length fresh ≡ entries_of n

-- and a packed triangle of order m
pub record Parts (m n : ℕ) (old rows fresh : List Float) : Type 0 where
  pub further : NewRows m n rows fresh
  pub first : length old ≡ entries_of m
