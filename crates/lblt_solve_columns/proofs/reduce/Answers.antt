-- `reduce` goes through the blocks from the first row on.
use Rattle.pivots.proofs.Walks.{along_none, along_more, along_all, block_at, rows_positive}
use Rattle.lblt_solve_columns.proofs.ColumnBlocks.{columns_reduced}
use Rattle.std.specs.Prelude.{refl}
use Rattle.std.proofs.Common.{◌∙◌, arith}
use Rattle.lblt_solve_columns.proofs.reduce.Goals as goal

pub loop-k-init : goal.loop-k-init
loop-k-init g c = (along_none c.requires.readable.accepted, refl)

pub reduce_block-k-requires-clause-block_at : goal.reduce_block-k-requires-clause-block_at
reduce_block-k-requires-clause-block_at g c = block_at c.requires.readable.accepted c.loop-k.invariant.0.boundary c.loop-k-test.true

pub loop-k-smaller : goal.loop-k-smaller
loop-k-smaller g c =
    omega (arith, c.reduce_block-k.ensures.row, rows_positive c.args.words.now c.loop-k.k)

pub loop-k-preserved : goal.loop-k-preserved
loop-k-preserved g c =
    (along_more c.loop-k.invariant.0 c.loop-k-test.true c.reduce_block-k.ensures.row c.reduce_block-k.ensures.column, c.reduce_block-k.auto.b ∙ c.loop-k.invariant.1)

pub returns : goal.returns
returns g c =
    columns_reduced _ _ _ c.requires.sides.long _ _ (along_all c.loop-k.invariant.0 c.loop-k-test.false)
