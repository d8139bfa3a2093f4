-- `solve_fours` solves four columns at a time, and then those that are left.
use Rattle.std.specs.Prelude.{◌≡◌, ◌+◌, ◌*◌, ◌/◌}
use Rattle.std.proofs.Common.{arith}
use Rattle.matrix.specs.Columns.{each_column}
use Rattle.matrix.proofs.Turning.{turning_none, turning_more, turning_all, turning_on}
use Rattle.lblt_solve_columns.proofs.solve_fours.Goals as goal

pub loop-group-init : goal.loop-group-init
loop-group-init c = turning_none (omega arith)

pub loop-group-preserved : goal.loop-group-preserved
loop-group-preserved c =
    let next : 4 * (c.loop-group.group + 1) ≡ 4 * c.loop-group.group + 4 = omega arith in
    rw next (turning_on c.loop-group.invariant 4 (omega arith) c.solve_from.ensures c.solve_from.auto.b)

pub loop-j-init : goal.loop-j-init
loop-j-init c =
    let end : c.args.columns / 4 ≡ c.loop-group.group = omega arith in
    rw end c.loop-group.invariant

pub loop-j-preserved : goal.loop-j-preserved
loop-j-preserved c = turning_more c.loop-j.invariant c.loop-j-test.true c.solve_at.ensures c.solve_at.auto.b

pub returns : goal.returns
unfolding each_column
returns c = turning_all c.loop-j.invariant c.loop-j-test.false
