-- `row_max` meets its contract: a loop along the row, and one down the column. Assumes nothing.
use native.Mathlib.Omega.{arith}
use lib.Ieee.{is_nan, of_bits}
use Rattle.matrix.proofs.Loops.{ran_none, ran_more, ran_all}
use Rattle.lblt_choice.specs.Choice.{along_row, down_column}
use Rattle.lblt_choice.proofs.Choices.{row_scanned}
use Rattle.lblt_choice.proofs.row_max.Goals as goal

pub loop-j-init : goal.loop-j-init
unfolding is_nan of_bits
loop-j-init c = (ran_none (omega arith), tt)

pub loop-j-preserved : goal.loop-j-preserved
loop-j-preserved c = (ran_more c.loop-j.invariant.0 c.loop-j-test.true c.or_entry-rowmax.ensures.value, c.or_entry-rowmax.ensures.no_nan)

pub loop-j-2-init : goal.loop-j-2-init
loop-j-2-init c = (ran_none (omega arith), c.loop-j.invariant.1)

pub loop-j-2-preserved : goal.loop-j-2-preserved
unfolding along_row down_column
loop-j-2-preserved c = (ran_more c.loop-j-2.invariant.0 c.loop-j-2-test.true c.or_entry-rowmax-in-loop-j-2.ensures.value, c.or_entry-rowmax-in-loop-j-2.ensures.no_nan)

pub returns : goal.returns
returns c = row_scanned _ _ _ _ (ran_all c.loop-j.invariant.0 c.loop-j-test.false) (ran_all c.loop-j-2.invariant.0 c.loop-j-2-test.false)
