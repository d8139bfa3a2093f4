-- `solve_column` solves a column by itself.
use Rattle.std.proofs.Common.{◌∙◌}
use Rattle.substitution.proofs.Instances.{one_each}
use Rattle.lblt_solve_columns.proofs.solve_column.Goals as goal

pub returns : goal.returns
returns c = c.solve.ensures ∙ one_each _ _ _ c.requires.sides.long
