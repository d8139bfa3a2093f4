-- `by_pairs::rows`: the first row, then the others.
use Rattle.matrix.proofs.Grids.{turned_none, turned_more, turned_all}
use Rattle.lblt_pivot.proofs.Begins.{begun_all}
use Rattle.lblt_pivot.proofs.by_pairs.rows.Goals as goal

pub loop-i-init : goal.loop-i-init
loop-i-init g c = turned_none c.first_row-first.ensures.holds.sound c.first_row-first.ensures.upto

pub loop-i-preserved : goal.loop-i-preserved
loop-i-preserved g c = turned_more c.loop-i.invariant c.loop-i-test.true c.at.ensures

pub returns : goal.returns
returns g c = begun_all c.first_row-first.ensures (turned_all c.loop-i.invariant c.loop-i-test.false)
