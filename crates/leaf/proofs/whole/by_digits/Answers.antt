-- `whole::by_digits` meets its contract.
use native.Mathlib.Omega.{arith}
use Rattle.leaf.proofs.Worked.{worked_zero, worked_one, worked_small}
use Rattle.leaf.proofs.whole.by_digits.Goals as goal
use Rattle.leaf.proofs.whole.by_digits.Goals.{then-s-rest, else-s-rest}

pub overflow_mul-rest : goal.overflow_mul-rest
overflow_mul-rest c = omega (arith, worked_small c.loop-digit.invariant c.loop-digit-test.true)

pub overflow_add-rest : goal.overflow_add-rest
overflow_add-rest c = omega (arith, worked_small c.loop-digit.invariant c.loop-digit-test.true)

pub overflow_mul-s-in-loop-digit : goal.overflow_mul-s-in-loop-digit
overflow_mul-s-in-loop-digit c = omega (arith, worked_small c.loop-digit.invariant c.loop-digit-test.true)

pub overflow_mul-rest-then-s-rest : goal.overflow_mul-rest-then-s-rest
overflow_mul-rest-then-s-rest c = omega (arith, worked_small c.loop-digit.invariant c.loop-digit-test.true)

pub loop-digit-preserved : goal.loop-digit-preserved
loop-digit-preserved c = elim c.if-s-rest.branch [
  | then-s-rest w ↦ rw (w.s-is, w.rest-is) (worked_one c.loop-digit.invariant c.loop-digit-test.true w.if-s-rest.true)
  | else-s-rest w ↦ rw (w.s-is, w.rest-is) (worked_zero c.loop-digit.invariant c.loop-digit-test.true w.if-s-rest.false)
]
