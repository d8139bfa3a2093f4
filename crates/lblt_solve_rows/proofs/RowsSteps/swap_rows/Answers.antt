-- `swap_rows` exchanges two rows, one column after the other.
use Rattle.std.proofs.Common.{length-set}
use Rattle.matrix.specs.Columns.{each_column}
use Rattle.matrix.proofs.Turning.{turning_more, turning_all}
use Rattle.lblt_solve_columns.proofs.ColumnBlocks.{swapped_none}
use Rattle.lblt_solve_rows.proofs.Stores.{swap_at}
use Rattle.lblt_solve_rows.proofs.RowsSteps.swap_rows.Goals as goal

pub returns-then-p-q : goal.returns-then-p-q
returns-then-p-q c = swapped_none _ _ _ c.requires.b_len c.if-p-q.true

pub loop-j-preserved : goal.loop-j-preserved
loop-j-preserved c =
    turning_more c.loop-j.invariant c.loop-j-test.true (swap_at _ _ _ _ _ c.requires.p_lt_n c.requires.q_lt_n) (simp length-set)

pub returns : goal.returns
unfolding each_column
returns c = turning_all c.loop-j.invariant c.loop-j-test.false
