-- `step` meets its contract: the three choices. Assumes nothing.
use native.Mathlib.Omega.{arith}
use Rattle.lblt_choice.proofs.Range.{one_range, two_range}
use Rattle.lblt.proofs.Stands.{stands_zero_column, stands_one, stands_two}
use Rattle.lblt.proofs.Reached.step.Goals as goal

pub choose-requires-clause-laid : goal.choose-requires-clause-laid
choose-requires-clause-laid c = c.requires.laid

pub choose-requires-clause-k_lt_order : goal.choose-requires-clause-k_lt_order
choose-requires-clause-k_lt_order c = c.requires.row_lt_order

pub pivot1-requires-clause-laid : goal.pivot1-requires-clause-laid
pivot1-requires-clause-laid c = c.requires.laid

pub pivot1-requires-clause-k_le_p : goal.pivot1-requires-clause-k_le_p
pivot1-requires-clause-k_le_p c =
    let range = one_range _ c.requires.row_lt_order c.choose.ensures c.in-One.is in
    range.0

pub pivot1-requires-clause-p_lt_order : goal.pivot1-requires-clause-p_lt_order
pivot1-requires-clause-p_lt_order c =
    let range = one_range _ c.requires.row_lt_order c.choose.ensures c.in-One.is in
    range.1

pub one-requires-in-One : goal.one-requires-in-One
one-requires-in-One c =
    let range = one_range _ c.requires.row_lt_order c.choose.ensures c.in-One.is in omega arith

pub pivot2-requires-clause-laid : goal.pivot2-requires-clause-laid
pivot2-requires-clause-laid c = c.requires.laid

pub pivot2-requires-clause-k_lt_p : goal.pivot2-requires-clause-k_lt_p
pivot2-requires-clause-k_lt_p c =
    let range = two_range _ c.requires.row_lt_order c.choose.ensures c.in-Two.is in
    range.0

pub pivot2-requires-clause-p_lt_order : goal.pivot2-requires-clause-p_lt_order
pivot2-requires-clause-p_lt_order c =
    let range = two_range _ c.requires.row_lt_order c.choose.ensures c.in-Two.is in
    range.1

pub two-requires : goal.two-requires
two-requires c =
    let range = two_range _ c.requires.row_lt_order c.choose.ensures c.in-Two.is in omega arith

pub returns-in-ZeroColumn : goal.returns-in-ZeroColumn
returns-in-ZeroColumn c =
    stands_zero_column _ _ c.choose.ensures c.in-ZeroColumn.is c.requires.laid.sound c.one.ensures c.first_mark.ensures

pub returns-in-One : goal.returns-in-One
returns-in-One c =
    stands_one _ _ c.choose.ensures c.in-One.is c.pivot1.ensures c.one-in-One.ensures

pub returns-in-Two : goal.returns-in-Two
returns-in-Two c =
    stands_two _ _ c.choose.ensures c.in-Two.is c.pivot2.ensures c.two.ensures
