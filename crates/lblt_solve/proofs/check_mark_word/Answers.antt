-- `check_mark_word`: the mark decides.
use Rattle.lblt_solve.proofs.Marked.{unmarked, marked}
use Rattle.lblt_solve.proofs.check_mark_word.Goals as goal

pub returns-then-mark-eq0 : goal.returns-then-mark-eq0
returns-then-mark-eq0 c = unmarked c.args.n c.args.words.now c.mark-mark.ensures c.if-mark-eq0.true

pub returns : goal.returns
returns c = marked c.args.n c.args.words.now c.mark-mark.ensures c.if-mark-eq0.false
