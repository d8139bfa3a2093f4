-- `first_mark` meets its contract. Assumes nothing.
use borrow.Author.Tests.{eq-eqb, ne_eqb}
use Rattle.lblt.specs.Step.{first_mark}
use Rattle.lblt.proofs.notes.first_mark.Goals as goal

pub returns-then-mark-eq0 : goal.returns-then-mark-eq0
unfolding first_mark
returns-then-mark-eq0 c = rw (eq-eqb c.args.mark 0 c.if-mark-eq0.true)

pub returns : goal.returns
unfolding first_mark
returns c = rw (ne_eqb c.args.mark 0 c.if-mark-eq0.false)
