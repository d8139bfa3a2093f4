use Rattle.std.proofs.Common.{sym, ap, ◌∙◌, arith}
use Rattle.sheet_text.specs.inner.Digit.{digit_of}
use Rattle.sheet_text.specs.inner.Line.{found_in}
use Rattle.sheet_text.proofs.Steps.{number_end, number_other, number_first}
use Rattle.sheet_text.proofs.NextLaws.{none_is}
use Rattle.sheet_text.proofs.line.read_number.Goals as goal

pub returns-in_err-get : goal.returns-in_err-get
returns-in_err-get c =
    rw c.from_residual.ensures (none_is c.args.s.now (number_end c.args.stop 0 c.args.s.now c.args.at c.in_err-get.ensures.lookup.3))

pub returns-then-first-gt9 : goal.returns-then-first-gt9
returns-then-first-gt9 c =
    let b = c.in_ok-get.ensures.lookup.3 in
    let d = c.digit_value-first.ensures ∙ ap digit_of (b.1 0) in
    none_is c.args.s.now (number_other c.args.stop 0 c.args.s.now c.args.at c.digit_value-first.result d b.0 c.if-first-gt9.true)

pub returns : goal.returns
returns c =
    let b = c.in_ok-get.ensures.lookup.3 in
    let d = c.from.ensures ∙ c.digit_value-first.ensures ∙ ap digit_of (b.1 0) in
    c.read_digits.ensures ∙ sym (ap (found_in c.args.s.now) (number_first c.args.stop 0 c.args.s.now c.args.at c.from.result d b.0 (omega arith)))
