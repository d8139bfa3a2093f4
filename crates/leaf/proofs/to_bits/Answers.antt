-- `to_bits` meets its contract.
use mathlib.Core.Path.{sym, ap, ◌∙◌}
use lib.Ieee.{binary64, to_bits}
use Rattle.leaf.proofs.Nan.{is_a_nan, no_nan, written_nan}
use Rattle.leaf.proofs.to_bits.Goals as goal

pub returns-then-x : goal.returns-then-x
returns-then-x c = sym (ap (to_bits binary64) (is_a_nan c.args.x c.if-x.true) ∙ written_nan)

pub float_to_bits-result : goal.float_to_bits-result
float_to_bits-result c = no_nan c.args.x c.if-x.false
