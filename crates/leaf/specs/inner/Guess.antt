-- What the steps of the guessed root ask of their arguments: enough that no product leaves 64 bits.
use Rattle.std.specs.Prelude.{◌≡◌, ℕ, ◌+◌, ◌*◌, ◌^◌, ◌<◌}

-- n and a reciprocal root r
pub record Half (n r : ℕ) : Type 0 where
  pub number : n < 2 ^ 54
  pub reciprocal : r < 2 ^ 32

-- n, the root's first digits h, what r is left above their square, and its last digits l
pub record Halves (n h r l : ℕ) : Type 0 where
  pub number : n < 2 ^ 54
  pub high : h < 2 ^ 32
  pub rest : r < 2 ^ 36
  pub low : l < 2 ^ 26
  pub square : h * h + r ≡ n * 2 ^ 10
