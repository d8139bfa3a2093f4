-- `eliminate_two` takes two columns of the factor, times rows k and k + 1, from the rows below.
use Rattle.std.proofs.Common.{ap, ◌∙◌}
use Rattle.matrix.specs.Columns.{each_column}
use Rattle.matrix.proofs.Columns.{each_after}
use Rattle.matrix.proofs.Turning.{turning_more, turning_all}
use Rattle.lblt_solve_rows.proofs.ByRow.{less_keeps}
use Rattle.lblt_solve_rows.proofs.Across.{eliminated_two}
use Rattle.lblt_solve_rows.proofs.RowsSteps.eliminate_two.Goals as goal

pub loop-i-preserved : goal.loop-i-preserved
loop-i-preserved c =
    turning_more c.loop-i.invariant c.loop-i-test.true
    (c.less_row-in-loop-i.ensures
    ∙ ap (each_column _ _ _) c.less_row.ensures
    ∙ each_after _ _ _ _ (less_keeps _ _ _) (less_keeps _ _ _) c.loop-i.b (c.loop-i.invariant.long ∙ c.requires.sides.long))
    (c.less_row-in-loop-i.auto.b ∙ c.less_row.auto.b)

pub returns : goal.returns
returns c =
    turning_all c.loop-i.invariant c.loop-i-test.false
    ∙ eliminated_two _ _ _ _ c.requires.sides.long _ _ c.start-start.ensures _ c.start-next.ensures
