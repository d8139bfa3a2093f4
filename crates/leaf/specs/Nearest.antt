-- The root said a second time: the f64 nearest the exact root, over whole numbers.
use Rattle.std.specs.Prelude.{◌≡◌, ℕ, zero, suc, ◌+◌, ◌-◌, ◌*◌, ◌^◌, ◌<◌, true, false, T, Float}
use Rattle.std.specs.Float.{nan, inf, fin, binary64}
use Rattle.std.specs.Float.Ieee.{fits, of_bits, to_bits}
use Rattle.std.specs.Float.Ieee.Positive.{positive}
use Rattle.leaf.specs.Root.{units_of}

-- The floats beside a positive one, by bit pattern.
abbrev pub before : Float → Float
before r = of_bits binary64 (to_bits binary64 r - 1)

abbrev pub after : Float → Float
after r = of_bits binary64 (to_bits binary64 r + 1)

abbrev pub square_of : ℕ → ℕ
square_of n = n * n

-- r is the f64 nearest the root of x, for an x above zero: that root lies between the lower and the upper midpoint beside r.
-- With all sizes in units the root is √(x * 2 ^ 1074), and a midpoint is (a + b) / 2; both sides are doubled and squared.
pub record Nearest (x r : Float) : Type 0 where
  pub fits : T (fits binary64 r)
  pub positive : T (positive r)
  pub lower : square_of (units_of (before r) + units_of r) < 4 * (units_of x * 2 ^ 1074)
  pub upper : 4 * (units_of x * 2 ^ 1074) < square_of (units_of r + units_of (after r))

-- r is the root of x.
unfoldable pub IsRoot : Float → Float → Type 0
IsRoot nan r = r ≡ nan
IsRoot (inf true) r = r ≡ nan
IsRoot (inf false) r = r ≡ inf false
IsRoot (fin s zero e) r = r ≡ fin s zero e
IsRoot (fin true (suc m) e) r = r ≡ nan
IsRoot (fin false (suc m) e) r = Nearest (fin false (suc m) e) r
