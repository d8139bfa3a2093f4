-- What a byte is worth as a digit: 0 to 9, a to f, and 255 for no digit.
use Rattle.std.specs.Prelude.{ℕ, ◌-◌, cond, ◌&&◌, leb}

unfoldable pub digit_of : ℕ → ℕ
digit_of b = cond (leb 48 b && leb b 57) (b - 48) (cond (leb 97 b && leb b 102) (b - 87) 255)
