-- `engine::answer_to` meets its contract. Assumes nothing.
use Rattle.cholesky.specs.Crate.{answer_to}
use Rattle.cholesky.proofs.engine.answer_to.Goals as goal

pub returns-then-d : goal.returns-then-d
unfolding answer_to
returns-then-d c = simp c.if-d.true

pub returns-then-d-2 : goal.returns-then-d-2
unfolding answer_to
returns-then-d-2 c = simp (c.if-d.false, c.if-d-2.true)

pub returns-then-d-3 : goal.returns-then-d-3
unfolding answer_to
returns-then-d-3 c = simp (c.if-d.false, c.if-d-2.false, c.if-d-3.true)

pub returns : goal.returns
unfolding answer_to
returns c = simp (c.if-d.false, c.if-d-2.false, c.if-d-3.false)
