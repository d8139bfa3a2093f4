-- `divide_two` solves a block of size 2, one column after the other.
use Rattle.std.proofs.Common.{length-set, refl, ◌∙◌}
use Rattle.matrix.specs.Columns.{each_column}
use Rattle.matrix.proofs.Turning.{turning_more, turning_all}
use Rattle.lblt_solve_columns.specs.Column.{divide_two, block_determinant}
use Rattle.lblt_solve_rows.proofs.Stores.{divide_two_at}
use Rattle.lblt_solve_rows.proofs.RowsSteps.divide_two.Goals as goal

pub loop-j-preserved : goal.loop-j-preserved
loop-j-preserved c =
    turning_more c.loop-j.invariant c.loop-j-test.true (divide_two_at _ _ _ _ _ _ _ _ c.requires.k_bound) (simp length-set)

pub returns : goal.returns
unfolding divide_two block_determinant each_column
returns c =
    turning_all c.loop-j.invariant c.loop-j-test.false ∙ rw (c.get-d11.ensures, c.get-d22.ensures, c.get-d21.ensures) refl
