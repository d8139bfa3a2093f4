-- `choose_by` meets its contract. Assumes nothing.
use Rattle.handheld.proofs.Choices.{zero_column, diagonal_large, diagonal_wins, both_small, other_wins}
use Rattle.handheld.proofs.choice.choose_by.Goals as goal

pub returns-then-maximum : goal.returns-then-maximum
returns-then-maximum c = zero_column c.args.k c.args.diag c.args.colmax c.args.imax c.args.rowmax c.args.other c.maximum.ensures c.if-maximum.true

pub returns-then-diag-colmax-2 : goal.returns-then-diag-colmax-2
returns-then-diag-colmax-2 c = diagonal_wins c.args.k c.args.diag c.args.colmax c.args.imax c.args.rowmax c.args.other c.maximum.ensures c.if-maximum.false c.if-diag-colmax.true c.if-diag-colmax-2.true

pub returns-then-abs-rowmax : goal.returns-then-abs-rowmax
returns-then-abs-rowmax c = both_small c.args.k c.args.diag c.args.colmax c.args.imax c.args.rowmax c.args.other c.maximum.ensures c.if-maximum.false c.if-diag-colmax.true c.if-diag-colmax-2.false c.abs.ensures c.if-abs-rowmax.true

pub returns-then-diag-colmax : goal.returns-then-diag-colmax
returns-then-diag-colmax c = other_wins c.args.k c.args.diag c.args.colmax c.args.imax c.args.rowmax c.args.other c.maximum.ensures c.if-maximum.false c.if-diag-colmax.true c.if-diag-colmax-2.false c.abs.ensures c.if-abs-rowmax.false

pub returns : goal.returns
returns c = diagonal_large c.args.k c.args.diag c.args.colmax c.args.imax c.args.rowmax c.args.other c.maximum.ensures c.if-maximum.false c.if-diag-colmax.false
