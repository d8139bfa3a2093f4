-- `diagonal` meets its contract. Assumes nothing.
use Rattle.teaching.proofs.Working.{diagonal_passed, diagonal_refused}
use Rattle.teaching.proofs.diagonal.Goals as goal

pub returns-then-d : goal.returns-then-d
returns-then-d c = diagonal_passed c.args.r c.updated-d.ensures c.if-d.true c.root.ensures c.put.ensures

pub returns : goal.returns
returns c = diagonal_refused c.args.r c.updated-d.ensures c.if-d.false c.answer_to.ensures c.put-2.ensures
