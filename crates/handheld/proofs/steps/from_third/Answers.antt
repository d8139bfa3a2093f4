-- `from_third` meets its contract. Assumes nothing.
use Rattle.handheld.proofs.Reaching.{third_marked, third_unmarked}
use Rattle.handheld.proofs.steps.from_third.Goals as goal

pub returns-then-maximum : goal.returns-then-maximum
returns-then-maximum c = third_marked c.args.t c.abs.ensures c.maximum.ensures c.args.p.index0 c.args.p.size0 c.args.p.index1 c.args.p.size1 c.args.mark c.if-maximum.true c.first_mark-first.ensures

pub returns : goal.returns
returns c = third_unmarked c.args.t c.abs.ensures c.maximum.ensures c.args.p.index0 c.args.p.size0 c.args.p.index1 c.args.p.size1 c.args.mark c.if-maximum.false
