-- `gather_row` takes the later rows, times the factor, from one row.
use Rattle.std.proofs.Common.{◌∙◌}
use Rattle.matrix.proofs.Turning.{turning_all}
use Rattle.lblt_solve_rows.proofs.Across.{gathered}
use Rattle.lblt_solve_rows.proofs.RowsSteps.gather_row.Goals as goal

pub returns : goal.returns
returns c =
    turning_all c.loop-i.invariant c.loop-i-test.false
    ∙ gathered _ _ _ _ c.requires.sides.long _ _ c.start-start.ensures _ c.requires.row_lt_from c.requires.from_le_order
