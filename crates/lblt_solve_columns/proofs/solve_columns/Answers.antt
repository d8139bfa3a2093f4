-- `solve_columns` solves one column after the other.
use Rattle.std.proofs.Common.{arith}
use Rattle.matrix.specs.Columns.{each_column}
use Rattle.matrix.proofs.Turning.{turning_none, turning_more, turning_all}
use Rattle.lblt_solve_columns.proofs.solve_columns.Goals as goal

pub loop-j-init : goal.loop-j-init
loop-j-init c = turning_none (omega arith)

pub loop-j-preserved : goal.loop-j-preserved
loop-j-preserved c = turning_more c.loop-j.invariant c.loop-j-test.true c.solve_at.ensures c.solve_at.auto.b

pub returns : goal.returns
unfolding each_column
returns c = turning_all c.loop-j.invariant c.loop-j-test.false
