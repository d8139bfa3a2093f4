-- `from_bits` meets its contract.
use mathlib.Core.Path.{sym, ◌∙◌}
use Rattle.leaf.proofs.Nan.{bits_of_nan, no_nan_bits, zero_by_zero}
use Rattle.leaf.proofs.from_bits.Goals as goal

pub returns-then-bits-gt9218868437227405312 : goal.returns-then-bits-gt9218868437227405312
returns-then-bits-gt9218868437227405312 c = zero_by_zero ∙ sym (bits_of_nan c.args.bits c.if-bits-gt9218868437227405312.true)

pub float_from_bits-result : goal.float_from_bits-result
float_from_bits-result c = no_nan_bits c.args.bits c.if-bits-gt9218868437227405312.false
