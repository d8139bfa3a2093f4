-- `backward_block` takes the rows below from one block.
use Rattle.lblt_solve_columns.proofs.ColumnBlocks.{columns_backed_one, columns_backed_two}
use Rattle.lblt_solve_columns.proofs.backward_block.Goals as goal

pub returns-then-size-eq1 : goal.returns-then-size-eq1
returns-then-size-eq1 g c =
    columns_backed_one _ _ _ c.requires.sides.long _ _ _ c.size.ensures c.index-p.ensures c.if-size-eq1.true c.gather_row.ensures c.swap_rows.ensures

pub returns : goal.returns
returns g c =
    columns_backed_two _ _ _ c.requires.sides.long _ _ _ c.size.ensures c.index-p.ensures c.if-size-eq1.false c.gather_row.ensures c.gather_row-2.ensures c.swap_rows-2.ensures
