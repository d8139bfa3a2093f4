-- `solve` goes forward and back.
use Rattle.std.proofs.Common.{refl}
use Rattle.matrix.proofs.Columns.{each_then}
use Rattle.cholesky_solve.specs.Triangles.{solve_triangles}
use Rattle.cholesky_solve.proofs.Keeps.{lower_keeps, transposed_keeps}
use Rattle.cholesky_solve.proofs.solve.Goals as goal

pub returns : goal.returns
unfolding solve_triangles
returns g c =
    each_then _ _ _ c.requires.long _ _ _ (lower_keeps _ _) (transposed_keeps _ _) (λ l. refl) c.solve_lower.ensures c.solve_transposed.ensures
