-- `item`: the factor is done, and its mark tells whether the side is solved.
use mathlib.Core.Path.{sym, ◌∙◌}
use Rattle.lblt_tray.proofs.Items.{item_laid, item_factored}
use Rattle.lblt_tray.proofs.Own.{item_readable, item_unmarked, item_marked}
use Rattle.lblt_tray.proofs.general.item.Goals as goal

pub fill-mark-requires-clause-laid : goal.fill-mark-requires-clause-laid
fill-mark-requires-clause-laid c = rw c.full-y.ensures (item_laid c.requires)

pub returns-then-mark-ne0 : goal.returns-then-mark-ne0
returns-then-mark-ne0 c =
    let filled = rw c.full-y.ensures at c.fill-mark.ensures in
    item_marked (item_factored c.requires filled) c.args.b.now c.requires.side filled.mark c.if-mark-ne0.true c.number.ensures

pub solve_column-requires-clause-readable : goal.solve_column-requires-clause-readable
solve_column-requires-clause-readable c =
    let filled = rw c.full-y.ensures at c.fill-mark.ensures in
    rw c.full-y.ensures (item_readable (item_factored c.requires filled) c.args.b.now c.requires.side)

pub returns : goal.returns
returns c =
    let filled = rw c.full-y.ensures at c.fill-mark.ensures in
    item_unmarked (item_factored c.requires filled) c.args.b.now c.requires.side (sym filled.mark ∙ c.if-mark-ne0.false) (rw c.full-y.ensures at c.solve_column.ensures)
