-- `swap_rows` exchanges two rows.
use Rattle.lblt_solve_columns.proofs.Rows.{swapped}
use Rattle.lblt_solve_columns.proofs.ColumnBlocks.{swapped_none}
use Rattle.lblt_solve_columns.proofs.steps.BesideSteps.swap_rows.Goals as goal

pub returns-then-p-q : goal.returns-then-p-q
returns-then-p-q g c = swapped_none _ _ _ c.requires.b_len c.if-p-q.true

pub returns : goal.returns
returns g c =
    swapped _ _ c.requires.b_len _ _ _ c.of-x.ensures c.of.ensures c.put.auto.b c.put.ensures c.put-2.auto.b c.put-2.ensures
