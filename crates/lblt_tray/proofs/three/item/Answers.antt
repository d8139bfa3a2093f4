-- `item`: the first row is marked, has a block of its own, or shares one.
use native.Mathlib.Omega.{arith}
use Rattle.lblt_choice.proofs.Range.{one_range, two_range}
use Rattle.handheld.proofs.Reaching.{first_one, first_two}
use Rattle.lblt_tray.proofs.three.item.Goals as goal

pub one_first-requires : goal.one_first-requires
one_first-requires c = let range = one_range _ (omega arith) c.choose_first.ensures c.in-One.is in range.1

pub overflow_cast-p : goal.overflow_cast-p
overflow_cast-p c = let range = one_range _ (omega arith) c.choose_first.ensures c.in-One.is in omega (arith, range.1)

pub after_one-requires-clause-index0_bound : goal.after_one-requires-clause-index0_bound
after_one-requires-clause-index0_bound c =
    let range = one_range _ (omega arith) c.choose_first.ensures c.in-One.is in
    range.1

pub after_one-requires-clause-onward : goal.after_one-requires-clause-onward
after_one-requires-clause-onward c = λ s comes. rw c.triangle-t.ensures at (first_one c.triangle-t.result c.choose_first.ensures c.in-One.is c.one_first.ensures comes)

pub two_first-requires-clause-p_nonzero : goal.two_first-requires-clause-p_nonzero
two_first-requires-clause-p_nonzero c = (two_range _ (omega arith) c.choose_first.ensures c.in-Two.is).0

pub two_first-requires-clause-p_bound : goal.two_first-requires-clause-p_bound
two_first-requires-clause-p_bound c = (two_range _ (omega arith) c.choose_first.ensures c.in-Two.is).1

pub overflow_cast-p-in-Two : goal.overflow_cast-p-in-Two
overflow_cast-p-in-Two c = let range = two_range _ (omega arith) c.choose_first.ensures c.in-Two.is in omega (arith, range.1)

pub after_two-requires-clause-index0_nonzero : goal.after_two-requires-clause-index0_nonzero
after_two-requires-clause-index0_nonzero c =
    let range = two_range _ (omega arith) c.choose_first.ensures c.in-Two.is in
    range.0

pub after_two-requires-clause-index0_bound : goal.after_two-requires-clause-index0_bound
after_two-requires-clause-index0_bound c =
    let range = two_range _ (omega arith) c.choose_first.ensures c.in-Two.is in
    range.1

pub after_two-requires-clause-onward : goal.after_two-requires-clause-onward
after_two-requires-clause-onward c = λ s comes. rw c.triangle-t.ensures at (first_two c.triangle-t.result c.choose_first.ensures c.in-Two.is c.two_first.ensures comes)
