-- `from_second` meets its contract. Assumes nothing.
use native.Mathlib.Omega.{arith}
use Rattle.lblt_choice.proofs.Range.{one_range}
use Rattle.handheld.proofs.Reaching.{second_zero, second_one, second_two}
use Rattle.handheld.proofs.steps.from_second.Goals as goal

pub overflow_cast-pairs : goal.overflow_cast-pairs
overflow_cast-pairs c = let range = one_range _ (omega arith) c.choose_second.ensures c.in-One.is in omega (arith, range.1)

pub one_second-requires-clause-p_nonzero : goal.one_second-requires-clause-p_nonzero
one_second-requires-clause-p_nonzero c =
    let range = one_range _ (omega arith) c.choose_second.ensures c.in-One.is in
    omega (arith, range.0)

pub one_second-requires-clause-p_bound : goal.one_second-requires-clause-p_bound
one_second-requires-clause-p_bound c =
    let range = one_range _ (omega arith) c.choose_second.ensures c.in-One.is in
    range.1

pub returns-in-ZeroColumn : goal.returns-in-ZeroColumn
returns-in-ZeroColumn c = second_zero c.args.t c.args.index0 c.args.mark c.choose_second.ensures c.in-ZeroColumn.is c.first_mark.ensures c.from_third.ensures

pub returns-in-One : goal.returns-in-One
returns-in-One c = second_one c.args.t c.args.index0 c.args.mark c.choose_second.ensures c.in-One.is c.one_second.ensures c.from_third-in-One.ensures

pub returns-in-Two : goal.returns-in-Two
returns-in-Two c = second_two c.args.t c.args.index0 c.args.mark c.choose_second.ensures c.in-Two.is
