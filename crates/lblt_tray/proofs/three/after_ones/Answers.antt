-- `after_ones`: the third row is marked, or has a block of its own.
use Rattle.handheld.proofs.Reaching.{third_unmarked}
use Rattle.lblt_tray.proofs.three.after_ones.Goals as goal

pub ones-requires-clause-ends : goal.ones-requires-clause-ends
ones-requires-clause-ends c = c.requires.onward _ (third_unmarked c.args.t c.abs.ensures c.maximum.ensures c.args.index0 1 c.args.index1 1 0 c.if-maximum.false)
