-- `root` meets its contract: each way out is a law of proofs/Patterns.antt.
use mathlib.Core.Path.{refl, sym, ◌∙◌, subst}
use lib.Dec.{T}
use lib.Ieee.{binary64, to_bits}
use Rattle.leaf.proofs.Nan.{is_a_nan, no_nan, zero_by_zero}
use Rattle.leaf.proofs.Patterns.{root_nan, root_zero, root_minus_zero, root_infinity, root_negative, root_of_bits}
use Rattle.leaf.proofs.root.Goals as goal

pub returns-then-x : goal.returns-then-x
returns-then-x c = root_nan c.args.x (is_a_nan c.args.x c.if-x.true)

pub float_to_bits-bits : goal.float_to_bits-bits
float_to_bits-bits c = no_nan c.args.x c.if-x.false

pub returns-then-bits-eq0 : goal.returns-then-bits-eq0
returns-then-bits-eq0 c = root_zero c.args.x (subst T (sym c.well_formed.0.1) tt) c.if-bits-eq0.true

pub returns-then-bits-lt4503599627370496 : goal.returns-then-bits-lt4503599627370496
returns-then-bits-lt4503599627370496 c =
    c.subnormal_root.ensures ∙ root_of_bits c.args.x (to_bits binary64 c.args.x) (subst T (sym c.well_formed.0.1) tt) refl

pub returns-then-bits-lt9218868437227405312 : goal.returns-then-bits-lt9218868437227405312
returns-then-bits-lt9218868437227405312 c =
    c.normal_root.ensures ∙ root_of_bits c.args.x (to_bits binary64 c.args.x) (subst T (sym c.well_formed.0.1) tt) refl

pub returns-then-bits-eq9218868437227405312 : goal.returns-then-bits-eq9218868437227405312
returns-then-bits-eq9218868437227405312 c =
    root_infinity c.args.x (subst T (sym c.well_formed.0.1) tt) c.if-bits-eq9218868437227405312.true

pub returns-then-bits : goal.returns-then-bits
returns-then-bits c =
    root_minus_zero c.args.x (subst T (sym c.well_formed.0.1) tt) c.if-bits.true

pub returns : goal.returns
returns c =
    zero_by_zero ∙ sym (root_negative c.args.x (subst T (sym c.well_formed.0.1) tt) (no_nan c.args.x c.if-x.false) c.if-bits-lt9218868437227405312.false c.if-bits-eq9218868437227405312.false c.if-bits.false)
