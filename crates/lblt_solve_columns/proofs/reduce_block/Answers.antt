-- `reduce_block` eliminates and divides one block.
use Rattle.lblt_solve_columns.proofs.ColumnBlocks.{columns_reduced_one, columns_reduced_two}
use Rattle.lblt_solve_columns.proofs.reduce_block.Goals as goal

pub returns-then-size-eq1 : goal.returns-then-size-eq1
returns-then-size-eq1 g c =
    columns_reduced_one _ _ _ c.requires.sides.long _ _ _ c.size.ensures c.index-p.ensures c.if-size-eq1.true c.swap_rows.ensures c.eliminate_one.ensures c.divide_one.ensures

pub returns : goal.returns
returns g c =
    columns_reduced_two _ _ _ c.requires.sides.long _ _ _ c.size.ensures c.index-p.ensures c.if-size-eq1.false c.swap_rows-2.ensures c.eliminate_two.ensures c.divide_two.ensures
