-- Two calls by one bench that differ in nothing but the other benches' columns.
use Rattle.std.specs.Prelude.{true, false, List, ◌≡◌, ℕ, ◌<◌, Float}
use Rattle.answer.specs.Answer.{Answer}
use Rattle.matrix.specs.Columns.{column}
use Rattle.lblt_bench.specs.Bench.{owns}

-- b and c hold the same in the bench's columns
abbrev pub OwnAlike : ℕ → ℕ → List ℕ → ℕ → List Float → List Float → Type 0
OwnAlike n columns benches bench b c = (j : ℕ) → j < columns → owns benches bench j ≡ true → column n j b ≡ column n j c

-- and in all others
abbrev pub OthersAlike : ℕ → ℕ → List ℕ → ℕ → List Float → List Float → Type 0
OthersAlike n columns benches bench b c = (j : ℕ) → j < columns → owns benches bench j ≡ false → column n j b ≡ column n j c

-- given b the call answers r and leaves b', given c it answers q and leaves c'
pub record Unfelt (n columns : ℕ) (benches : List ℕ) (bench : ℕ) (b : List Float) (r : Answer) (b' c : List Float) (q : Answer) (c' : List Float) : Type 0 where
  pub answers : r ≡ q
  pub own : OwnAlike n columns benches bench b' c'
  pub others : OthersAlike n columns benches bench b' b × OthersAlike n columns benches bench c' c
