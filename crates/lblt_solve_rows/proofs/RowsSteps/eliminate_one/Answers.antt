-- `eliminate_one` takes column k of the factor, times row k, from the rows below.
use Rattle.std.proofs.Common.{◌∙◌}
use Rattle.matrix.proofs.Turning.{turning_all}
use Rattle.lblt_solve_rows.proofs.Across.{eliminated_one}
use Rattle.lblt_solve_rows.proofs.RowsSteps.eliminate_one.Goals as goal

pub returns : goal.returns
returns c =
    turning_all c.loop-i.invariant c.loop-i-test.false ∙ eliminated_one _ _ _ _ c.requires.sides.long _ _ c.start-start.ensures
