-- `less_row` takes x times a row from another, one column after the other.
use Rattle.std.proofs.Common.{length-set}
use Rattle.matrix.specs.Columns.{each_column}
use Rattle.matrix.proofs.Turning.{turning_more, turning_all}
use Rattle.lblt_solve_rows.proofs.Stores.{less_at}
use Rattle.lblt_solve_rows.proofs.less_row.Goals as goal

pub loop-j-preserved : goal.loop-j-preserved
loop-j-preserved c =
    turning_more c.loop-j.invariant c.loop-j-test.true (less_at _ _ _ _ _ _ c.requires.i_lt_n c.requires.k_lt_n) (simp length-set)

pub returns : goal.returns
unfolding each_column
returns c = turning_all c.loop-j.invariant c.loop-j-test.false
