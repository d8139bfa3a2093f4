-- The larger of two floats. A NaN is dropped if the other is none; of equal numbers the first is taken.
use Rattle.std.specs.Prelude.{cond, Float}
use Rattle.std.specs.Float.Ieee.{is_nan, lt}

unfoldable pub maximum_of : Float → Float → Float
maximum_of x y = cond (is_nan x) y (cond (is_nan y) x (cond (lt x y) y x))
