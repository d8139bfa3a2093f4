-- The square root of an f64, worked out over whole numbers.
use Rattle.std.specs.Prelude.{ℕ, zero, suc, ◌+◌, ◌-◌, ◌*◌, ◌/◌, ◌^◌, true, false, cond, leb, Float}
use Rattle.std.specs.Float.{nan, inf, fin, binary64}
use Rattle.std.specs.Float.Ieee.{up, down, size, units}

-- The size of a finite f64, counted in the smallest one, 2 ^ -1074.
unfoldable pub units_of : Float → ℕ
units_of nan = 0
units_of (inf s) = 0
units_of (fin s m e) = m * up e * 2 ^ 1074 / down e

-- The root of a whole number v below 4 ^ d, cut to a whole number of d binary digits.
unfoldable pub root_digits : ℕ → ℕ → ℕ
root_digits zero v = 0
root_digits (suc d) v = let s = 2 * root_digits d (v / 4) in cond (leb ((s + 1) * (s + 1)) v) (s + 1) s

-- √v units as an f64. Of the root's binary digits the first 54 are worked out, k are left off, and the last of the 54 rounds.
unfoldable pub rounded : ℕ → Float
unfolding root_digits size units
rounded v = let k = (size v + 1) / 2 - 54 in units binary64 false ((root_digits 54 (v / 4 ^ k) + 1) / 2) (k + 1)

-- A number of n units has a root of √(n * 2 ^ 1074) units.
unfoldable pub root_of : Float → Float
unfolding units_of rounded
root_of nan = nan
root_of (inf true) = nan
root_of (inf false) = inf false
root_of (fin s zero e) = fin s zero e
root_of (fin true (suc m) e) = nan
root_of (fin false (suc m) e) = rounded (units_of (fin false (suc m) e) * 2 ^ 1074)
