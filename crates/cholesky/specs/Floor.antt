-- The rule with a substitute s, the floor: where a diagonal fails its test and s does not, s stands in for it.
use Rattle.std.specs.Prelude.{Bool, cond, Float}
use Rattle.std.specs.Float.Ieee.{lt}
use Rattle.matrix.specs.Rounded.{plus_zero}
use Rattle.leaf.specs.Root.{root_of}
use Rattle.cholesky.specs.Run.{Rule}
use Rattle.cholesky.specs.Crate.{answer_to}

-- the test of a diagonal, and of the floor
abbrev pub passes : Float → Bool
passes d = lt plus_zero d

-- what is judged at the diagonal d: where both fail, d itself
unfoldable pub standing : Float → Float → Float
standing s d = cond (passes d) d (cond (passes s) s d)

abbrev pub floor_rule : Float → Rule
floor_rule s = record { verdict = λ d j. answer_to (standing s d) j; root = λ d. root_of (standing s d) }
