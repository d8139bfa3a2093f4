-- `after_two`: the third row is marked, or has a block of its own.
use Rattle.handheld.proofs.Reaching.{third_unmarked}
use Rattle.lblt_tray.proofs.three.after_two.Goals as goal

pub two_one-requires-clause-ends : goal.two_one-requires-clause-ends
two_one-requires-clause-ends c = c.requires.onward _ (third_unmarked c.args.t c.abs.ensures c.maximum.ensures c.args.index0 2 c.args.index0 2 0 c.if-maximum.false)
