-- `solve`: the blocks forwards, each eliminated and divided, then the blocks backwards.
use Rattle.lblt_solve_columns.proofs.ColumnBlocks.{columns_solved}
use Rattle.lblt_solve_columns.proofs.solve.Goals as goal

pub returns : goal.returns
returns g c =
    columns_solved _ _ _ c.requires.sides.long _ c.requires.readable.accepted c.reduce.ensures c.backward.ensures
