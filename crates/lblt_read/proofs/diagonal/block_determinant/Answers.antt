-- `block_determinant` is the determinant of a block of size 2.
use Rattle.lblt_solve_columns.specs.Column.{block_determinant}
use Rattle.lblt_read.proofs.diagonal.block_determinant.Goals as goal

pub returns : goal.returns
unfolding block_determinant
returns c = simp (c.get-d21.ensures, c.get.ensures, c.get-2.ensures)
