-- `swap_columns` exchanges two columns, row by row.
use Rattle.std.proofs.Common.{arith}
use Rattle.matrix.proofs.Grids.{turned_none, turned_more, turned_all, holds_as}
use Rattle.lblt_read.proofs.Entrywise.{swap_loop}
use Rattle.lblt_read.proofs.Squares.{sound_of, squared_of, exchange_square}
use Rattle.lblt_read.proofs.square.swap_columns.Goals as goal

pub loop-row-init : goal.loop-row-init
loop-row-init c = turned_none (sound_of c.requires.squared) (omega arith)

pub loop-row-preserved : goal.loop-row-preserved
loop-row-preserved c =
    let squared = squared_of c.requires.squared.small c.loop-row.invariant.holds in
    turned_more c.loop-row.invariant c.loop-row-test.true (rw c.swap.ensures.after (exchange_square _ _ _ squared.long c.loop-row-test.true _ _ c.requires.p_lt_n c.requires.q_lt_n))

pub returns : goal.returns
returns c = holds_as (turned_all c.loop-row.invariant c.loop-row-test.false) (swap_loop _ _ _ _)
