-- `after_one`: the second row is marked, has a block of its own, or shares one with the third.
use native.Mathlib.Omega.{arith}
use Rattle.lblt_choice.proofs.Range.{one_range}
use Rattle.handheld.proofs.Reaching.{second_one, second_two}
use Rattle.lblt_tray.proofs.three.after_one.Goals as goal

pub one_second-requires-clause-p_nonzero : goal.one_second-requires-clause-p_nonzero
one_second-requires-clause-p_nonzero c =
    let range = one_range _ (omega arith) c.choose_second.ensures c.in-One.is in
    omega (arith, range.0)

pub one_second-requires-clause-p_bound : goal.one_second-requires-clause-p_bound
one_second-requires-clause-p_bound c =
    let range = one_range _ (omega arith) c.choose_second.ensures c.in-One.is in
    range.1

pub overflow_cast-p : goal.overflow_cast-p
overflow_cast-p c = let range = one_range _ (omega arith) c.choose_second.ensures c.in-One.is in omega (arith, range.1)

pub after_ones-requires-clause-index1_nonzero : goal.after_ones-requires-clause-index1_nonzero
after_ones-requires-clause-index1_nonzero c =
    let range = one_range _ (omega arith) c.choose_second.ensures c.in-One.is in
    omega (arith, range.0)

pub after_ones-requires-clause-index1_bound : goal.after_ones-requires-clause-index1_bound
after_ones-requires-clause-index1_bound c =
    let range = one_range _ (omega arith) c.choose_second.ensures c.in-One.is in
    range.1

pub after_ones-requires-clause-onward : goal.after_ones-requires-clause-onward
after_ones-requires-clause-onward c = λ s comes. c.requires.onward s (second_one c.args.t c.args.index0 0 c.choose_second.ensures c.in-One.is c.one_second.ensures comes)

pub one_two-requires-clause-ends : goal.one_two-requires-clause-ends
one_two-requires-clause-ends c = c.requires.onward _ (second_two c.args.t c.args.index0 0 c.choose_second.ensures c.in-Two.is)
