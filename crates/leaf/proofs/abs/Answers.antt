-- `abs` meets its contract: the mask takes the sign's bit off the pattern.
use mathlib.Core.Path.{sym, ap, ◌∙◌, subst}
use lib.Dec.{T}
use lib.Bits.{and_mask}
use lib.Ieee.{binary64, of_bits, to_bits}
use Rattle.leaf.specs.Abs.{abs_of}
use Rattle.leaf.proofs.Nan.{is_a_nan, no_nan}
use Rattle.leaf.proofs.Sign.{unsigned, masked_no_nan}
use Rattle.leaf.proofs.abs.Goals as goal

pub returns-then-x : goal.returns-then-x
unfolding abs_of
returns-then-x c = is_a_nan c.args.x c.if-x.true ∙ ap abs_of (sym (is_a_nan c.args.x c.if-x.true))

pub float_to_bits-result : goal.float_to_bits-result
float_to_bits-result c = no_nan c.args.x c.if-x.false

pub float_from_bits-result : goal.float_from_bits-result
float_from_bits-result c = masked_no_nan c.args.x _ (subst T (sym c.well_formed.0.1) tt) (no_nan c.args.x c.if-x.false)

pub returns : goal.returns
returns c =
    ap (of_bits binary64) (and_mask (to_bits binary64 c.args.x) 63)
    ∙ unsigned c.args.x (subst T (sym c.well_formed.0.1) tt) (no_nan c.args.x c.if-x.false)
