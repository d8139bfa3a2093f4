-- `solve_from` solves some columns of the slice.
use Rattle.matrix.proofs.ColumnsLent.{group_within, group_put}
use Rattle.lblt_solve_columns.proofs.Keeps.{solve_keeps}
use Rattle.lblt_solve_columns.proofs.solve_from.Goals as goal

pub slice_bounds-solve-end : goal.slice_bounds-solve-end
slice_bounds-solve-end g c = rw c.COLUMNS.ensures (group_within c.requires.lined _ _ c.requires.j_bound)

pub returns : goal.returns
returns g c =
    rw c.COLUMNS.ensures (group_put _ _ (solve_keeps _ _ _) c.requires.lined _ _ c.requires.j_bound (rw c.COLUMNS.ensures at c.solve.ensures))
