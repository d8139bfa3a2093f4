-- The lines of the rows from `row` on are still to come.
use Rattle.sheet_page.proofs.Loops.{pivots_start, pivots_more, pivots_all}
use Rattle.sheet_page.proofs.page.Page.pivots.Goals as goal

pub loop-row-init : goal.loop-row-init
loop-row-init c = pivots_start c.args.self.now c.args.words.now c.args.n

pub loop-row-preserved : goal.loop-row-preserved
loop-row-preserved c =
    pivots_more c.args.words.now c.args.n c.loop-row.row c.loop-row.invariant c.loop-row-test.true c.index.ensures c.size.ensures c.pivot.ensures

pub returns : goal.returns
returns c = pivots_all c.args.words.now c.args.n c.loop-row.row c.loop-row.invariant c.loop-row-test.false
