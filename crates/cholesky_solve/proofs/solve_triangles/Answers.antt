-- `solve_triangles` solves a column by itself.
use Rattle.std.proofs.Common.{◌∙◌}
use Rattle.substitution.proofs.Instances.{one_each}
use Rattle.cholesky_solve.proofs.solve_triangles.Goals as goal

pub returns : goal.returns
returns c = c.solve.ensures ∙ one_each _ _ _ c.requires.long
