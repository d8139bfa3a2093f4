-- `engine::finish` meets its contract. Assumes nothing.
use Rattle.answer.proofs.Done.{handed_on}
use Rattle.cholesky.specs.Floor.{floor_rule}
use Rattle.cholesky.proofs.Running.{finish_done, finish_refused}
use Rattle.cholesky.proofs.engine.finish.Goals as goal

pub returns-in_err-verdict : goal.returns-in_err-verdict
returns-in_err-verdict c =
    rw (handed_on _ c.from_residual.ensures.1)
    (finish_refused (floor_rule c.args.floor) c.args.y c.args.a.now c.args.j c.get.ensures c.requires.laid.sound c.in_err-verdict.ensures)

pub returns : goal.returns
returns c = finish_done (floor_rule c.args.floor) c.args.y c.args.a.now c.args.j c.get.ensures c.in_ok-verdict.ensures c.put.ensures c.divide.ensures
