-- The numbers of the cases, by their bits.
use Rattle.std.specs.Prelude.{ℕ}

abbrev pub zero : ℕ
zero = 0

abbrev pub minus_zero : ℕ
minus_zero = 0x8000_0000_0000_0000

abbrev pub quarter : ℕ
quarter = 0x3fd0_0000_0000_0000

abbrev pub minus_quarter : ℕ
minus_quarter = 0xbfd0_0000_0000_0000

abbrev pub half : ℕ
half = 0x3fe0_0000_0000_0000

-- the number before 1
abbrev pub below_one : ℕ
below_one = 0x3fef_ffff_ffff_ffff

abbrev pub one : ℕ
one = 0x3ff0_0000_0000_0000

abbrev pub minus_one : ℕ
minus_one = 0xbff0_0000_0000_0000

abbrev pub two : ℕ
two = 0x4000_0000_0000_0000

abbrev pub three : ℕ
three = 0x4008_0000_0000_0000

abbrev pub minus_three : ℕ
minus_three = 0xc008_0000_0000_0000

abbrev pub four : ℕ
four = 0x4010_0000_0000_0000

abbrev pub five : ℕ
five = 0x4014_0000_0000_0000

abbrev pub six : ℕ
six = 0x4018_0000_0000_0000

abbrev pub seven : ℕ
seven = 0x401c_0000_0000_0000

abbrev pub eight : ℕ
eight = 0x4020_0000_0000_0000

abbrev pub eleven : ℕ
eleven = 0x4026_0000_0000_0000

abbrev pub twelve : ℕ
twelve = 0x4028_0000_0000_0000

abbrev pub fourteen : ℕ
fourteen = 0x402c_0000_0000_0000

abbrev pub forty_nine : ℕ
forty_nine = 0x4048_8000_0000_0000

abbrev pub infinity : ℕ
infinity = 0x7ff0_0000_0000_0000

abbrev pub minus_infinity : ℕ
minus_infinity = 0xfff0_0000_0000_0000

abbrev pub nan : ℕ
nan = 0x7ff8_0000_0000_0000

-- 2^−600, 2^600 and 2^−1074
abbrev pub tiny : ℕ
tiny = 0x1a70_0000_0000_0000

abbrev pub huge : ℕ
huge = 0x6570_0000_0000_0000

abbrev pub smallest : ℕ
smallest = 1
