-- The digits that are left and the bytes of the text from i on give what all sixteen and the whole text give.
use Rattle.std.proofs.Common.{◌≡◌, ℕ, ◌-◌, ◌^◌, ◌<◌, List, drop}
use Rattle.sheet_text.specs.inner.Parse.{bits, hex_digits}
use Rattle.sheet_text.proofs.line.read_bits.Given as goal

pub record SoFar (text : List ℕ) (value i : ℕ) : Type 0 where
  pub room : value < 16 ^ i
  pub same : bits text ≡ hex_digits (16 - i) value (drop i text)

abbrev pub invariant-loop-i : goal.invariant-loop-i
invariant-loop-i l = SoFar l.text l.value l.i
