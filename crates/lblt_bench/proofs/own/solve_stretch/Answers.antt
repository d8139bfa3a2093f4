-- `solve_stretch` lends its columns out of the slice.
use Rattle.matrix.proofs.ColumnsLent.{group_within, group_put}
use Rattle.lblt_solve_columns.proofs.Keeps.{solve_keeps}
use Rattle.lblt_bench.proofs.own.solve_stretch.Goals as goal

pub slice_bounds-together-end : goal.slice_bounds-together-end
slice_bounds-together-end c = group_within c.requires.lined c.args.j c.args.count c.requires.count_bound

pub returns : goal.returns
returns c = group_put _ _ (solve_keeps _ _ _) c.requires.lined _ _ c.requires.count_bound c.together.ensures
