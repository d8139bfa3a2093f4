-- A signed number of 32 bits, read back from its bits: it is itself. Assumes nothing.
use Rattle.std.specs.Prelude.{◌≡◌, ◌<◌, ◌^◌, ℤ}
use lib.Signed.{mag}
use mir.Syntax.{w32}
use mir.Val.{to_z, of_z}
use mir.ValLaws.{to_z-of_z}

abbrev pub seen : ℤ → ℤ
seen z = to_z w32 (of_z w32 z)

pub itself : (z : ℤ) → mag z < 2 ^ 31 → seen z ≡ z
itself z fits = to_z-of_z w32 z (record { sfits = fits })
