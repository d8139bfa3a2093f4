-- The number so far and the bytes from i on give what the first digit and the bytes from `at` on give.
use Rattle.std.proofs.Common.{◌∙◌, arith}
use Rattle.sheet_text.proofs.Steps.{digits_end, digits_stop, digits_zero, digits_long, digits_other, digits_more}
use Rattle.sheet_text.proofs.NextLaws.{found_is, none_is}
use Rattle.sheet_text.proofs.line.read_digits.Goals as goal
use Rattle.sheet_text.proofs.line.read_digits.Goals.{then-value-eq0-via-then-value-eq0, then-value-eq0-via-else-value-eq0+then-value-gt999, then-value-eq0-via-else-value-eq0+else-value-gt999+then-digit-gt9}

pub returns-then-b-stop : goal.returns-then-b-stop
returns-then-b-stop c =
    found_is c.args.s.now record { read = c.loop-i.invariant.same ∙ digits_stop c.args.stop c.loop-i.value c.args.s.now c.loop-i.i c.loop-i-test.true c.if-b-stop.true; within = omega arith }

pub returns-then-value-eq0 : goal.returns-then-value-eq0
returns-then-value-eq0 c =
    none_is c.args.s.now (c.loop-i.invariant.same ∙ elim c.then-value-eq0.branch [
      | then-value-eq0-via-then-value-eq0 w ↦ digits_zero c.args.stop c.loop-i.value c.args.s.now c.loop-i.i c.loop-i-test.true c.if-b-stop.false w.if-value-eq0.true
      | then-value-eq0-via-else-value-eq0+then-value-gt999 w ↦ digits_long c.args.stop c.loop-i.value c.args.s.now c.loop-i.i c.loop-i-test.true c.if-b-stop.false w.if-value-eq0.false w.if-value-gt999.true
      | then-value-eq0-via-else-value-eq0+else-value-gt999+then-digit-gt9 w ↦ digits_other c.args.stop c.loop-i.value c.args.s.now c.loop-i.i c.digit_value-digit.result c.digit_value-digit.ensures c.loop-i-test.true c.if-b-stop.false w.if-value-eq0.false w.if-value-gt999.false w.if-digit-gt9.true
    ])

pub loop-i-preserved : goal.loop-i-preserved
loop-i-preserved c =
    record { small = omega arith; same = c.loop-i.invariant.same ∙ digits_more c.args.stop c.loop-i.value c.args.s.now c.loop-i.i c.from.result (c.from.ensures ∙ c.digit_value-digit.ensures) c.loop-i-test.true c.if-b-stop.false c.if-value-eq0.false c.if-value-gt999.false (omega arith) }

pub returns : goal.returns
returns c = none_is c.args.s.now (c.loop-i.invariant.same ∙ digits_end c.args.stop c.loop-i.value c.args.s.now c.loop-i.i c.loop-i-test.false)
