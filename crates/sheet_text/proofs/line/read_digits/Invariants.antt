-- The number so far and the bytes from i on give what the first digit and the bytes from `at` on give.
use Rattle.std.proofs.Common.{◌≡◌, ℕ, ◌<◌, List, drop}
use Rattle.sheet_text.specs.inner.Parse.{later_digits}
use Rattle.sheet_text.proofs.line.read_digits.Given as goal

pub record SoFar (s : List ℕ) (at stop first value i : ℕ) : Type 0 where
  pub small : value < 10000
  pub same : later_digits stop first (drop at s) ≡ later_digits stop value (drop i s)

abbrev pub invariant-loop-i : goal.invariant-loop-i
invariant-loop-i l = SoFar l.s l.at l.stop l.first l.value l.i
