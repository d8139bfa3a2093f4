-- `backward` goes through the blocks from the last row back.
use Rattle.pivots.proofs.Walks.{back_none, back_more, back_all, block_before, rows_positive}
use Rattle.lblt_solve_columns.proofs.ColumnBlocks.{columns_backed}
use Rattle.std.specs.Prelude.{refl, ◌-◌}
use Rattle.std.proofs.Common.{◌∙◌, arith}
use Rattle.lblt_solve_columns.proofs.backward.Goals as goal

pub loop-k-init : goal.loop-k-init
loop-k-init g c = (back_none c.requires.readable.accepted, refl)

pub backward_block-k-requires-clause-block_before : goal.backward_block-k-requires-clause-block_before
backward_block-k-requires-clause-block_before g c = block_before c.requires.readable.accepted c.loop-k.invariant.0.boundary c.loop-k-test.true

pub loop-k-smaller : goal.loop-k-smaller
loop-k-smaller g c =
    omega (arith, c.loop-k-test.true, c.backward_block-k.ensures.row, rows_positive c.args.words.now (c.loop-k.k - 1))

pub loop-k-preserved : goal.loop-k-preserved
loop-k-preserved g c =
    (back_more c.loop-k.invariant.0 c.loop-k-test.true c.backward_block-k.ensures.row c.backward_block-k.ensures.column, c.backward_block-k.auto.b ∙ c.loop-k.invariant.1)

pub returns : goal.returns
returns g c =
    columns_backed _ _ _ c.requires.sides.long _ _ (back_all c.loop-k.invariant.0 c.loop-k-test.false)
