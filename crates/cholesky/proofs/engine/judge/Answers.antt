-- `engine::judge` meets its contract. Assumes nothing.
use Rattle.cholesky.proofs.Judging.{judge_own, judge_floor, judge_refused}
use Rattle.cholesky.proofs.engine.judge.Goals as goal

pub returns-in-Ok : goal.returns-in-Ok
returns-in-Ok c = judge_own c.args.floor c.args.d c.args.j c.in-Ok.ensures c.root.ensures

pub returns-in-Err : goal.returns-in-Err
returns-in-Err c = judge_floor c.args.floor c.args.d c.args.j c.in-Err.ensures c.if-floor.true c.requires.spare_value

pub returns-in-Err-2 : goal.returns-in-Err-2
returns-in-Err-2 c = judge_refused c.args.floor c.args.d c.args.j c.in-Err.ensures c.if-floor.false
