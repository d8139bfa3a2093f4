-- The root of a whole number, cut to a whole number.
use Rattle.std.specs.Prelude.{ℕ, ◌+◌, ◌*◌, ◌≤◌, ◌<◌}

pub record CutRoot (v s : ℕ) : Type 0 where
  pub low : s * s ≤ v
  pub high : v < (s + 1) * (s + 1)
