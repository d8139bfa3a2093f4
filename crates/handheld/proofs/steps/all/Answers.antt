-- `all` meets its contract. Assumes nothing.
use native.Mathlib.Omega.{arith}
use Rattle.lblt_choice.proofs.Range.{one_range, two_range}
use Rattle.handheld.proofs.Reaching.{first_zero, first_one, first_two}
use Rattle.handheld.proofs.steps.all.Goals as goal

pub one_first-requires : goal.one_first-requires
one_first-requires c = let range = one_range _ (omega arith) c.choose_first.ensures c.in-One.is in range.1

pub overflow_cast-p : goal.overflow_cast-p
overflow_cast-p c = let range = one_range _ (omega arith) c.choose_first.ensures c.in-One.is in omega (arith, range.1)

pub overflow_cast-pairs : goal.overflow_cast-pairs
overflow_cast-pairs c = let range = two_range _ (omega arith) c.choose_first.ensures c.in-Two.is in omega (arith, range.1)

pub overflow_cast-pairs-in-Two : goal.overflow_cast-pairs-in-Two
overflow_cast-pairs-in-Two c = let range = two_range _ (omega arith) c.choose_first.ensures c.in-Two.is in omega (arith, range.1)

pub two_first-requires-clause-p_nonzero : goal.two_first-requires-clause-p_nonzero
two_first-requires-clause-p_nonzero c = (two_range _ (omega arith) c.choose_first.ensures c.in-Two.is).0

pub two_first-requires-clause-p_bound : goal.two_first-requires-clause-p_bound
two_first-requires-clause-p_bound c = (two_range _ (omega arith) c.choose_first.ensures c.in-Two.is).1

pub returns-in-ZeroColumn : goal.returns-in-ZeroColumn
returns-in-ZeroColumn c = first_zero c.args.t c.choose_first.ensures c.in-ZeroColumn.is c.from_second.ensures

pub returns-in-One : goal.returns-in-One
returns-in-One c = first_one c.args.t c.choose_first.ensures c.in-One.is c.one_first.ensures c.from_second-in-One.ensures

pub returns-in-Two : goal.returns-in-Two
returns-in-Two c = first_two c.args.t c.choose_first.ensures c.in-Two.is c.two_first.ensures c.from_third.ensures
