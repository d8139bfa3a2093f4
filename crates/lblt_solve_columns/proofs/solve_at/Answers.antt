-- `solve_at` solves one column of the slice.
use Rattle.std.proofs.Common.{◌∙◌}
use Rattle.matrix.proofs.Loops.{for_one}
use Rattle.lblt_solve_columns.proofs.solve_at.Goals as goal

pub returns : goal.returns
returns c = c.solve_from.ensures ∙ for_one _ _ _
