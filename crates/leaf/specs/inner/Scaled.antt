-- What the parts of `root` ask of their arguments.
use Rattle.std.specs.Prelude.{ℕ, ◌^◌, ◌≤◌, ◌<◌}

pub record Normal (bits : ℕ) : Type 0 where
  pub least : 2 ^ 52 ≤ bits
  pub most : bits < 0x7ff0_0000_0000_0000

pub record Subnormal (bits : ℕ) : Type 0 where
  pub least : 0 < bits
  pub most : bits < 2 ^ 52

-- m is a significand of 53 digits, and `at` its exponent, counted from 2 ^ -2096
pub record Scaled (m at : ℕ) : Type 0 where
  pub least : 2 ^ 52 ≤ m
  pub most : m < 2 ^ 53
  pub lowest : 970 ≤ at
  pub highest : at ≤ 3067
