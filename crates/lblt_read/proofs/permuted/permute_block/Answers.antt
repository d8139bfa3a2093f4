-- `permute_block` exchanges the columns of one block and adds the later ones.
use Rattle.std.proofs.Common.{arith}
use Rattle.matrix.proofs.Grids.{holds_as}
use Rattle.pivots.proofs.Walks.{one_is, two_is, reads_two}
use Rattle.lblt_read.specs.Permuted.{permuted_block}
use Rattle.lblt_read.proofs.Steps.{permuted_one, permuted_two}
use Rattle.lblt_read.proofs.permuted.permute_block.Goals as goal

pub returns-then-size-eq1 : goal.returns-then-size-eq1
unfolding permuted_block
returns-then-size-eq1 c = holds_as (permuted_one _ _ c.args.words.now c.args.k c.index-p.ensures c.swap_columns.ensures c.gather_column.ensures) (one_is _ _ c.size.ensures _ c.if-size-eq1.true)

pub swap_columns-requires-else-size-eq1-clause-p_lt_n : goal.swap_columns-requires-else-size-eq1-clause-p_lt_n
swap_columns-requires-else-size-eq1-clause-p_lt_n c = omega (arith, reads_two c.args.words.now c.args.k c.size.ensures c.if-size-eq1.false)

pub gather_column-requires-else-size-eq1-clause-from_le_order : goal.gather_column-requires-else-size-eq1-clause-from_le_order
gather_column-requires-else-size-eq1-clause-from_le_order c = omega (arith, reads_two c.args.words.now c.args.k c.size.ensures c.if-size-eq1.false)

pub gather_column-requires-else-size-eq1-2-clause-from_le_order : goal.gather_column-requires-else-size-eq1-2-clause-from_le_order
gather_column-requires-else-size-eq1-2-clause-from_le_order c = omega (arith, reads_two c.args.words.now c.args.k c.size.ensures c.if-size-eq1.false)

pub returns-else-size-eq1 : goal.returns-else-size-eq1
unfolding permuted_block
returns-else-size-eq1 c = holds_as (permuted_two _ _ c.args.words.now c.args.k c.index-p.ensures c.swap_columns-else-size-eq1.ensures c.gather_column-else-size-eq1.ensures c.gather_column-else-size-eq1-2.ensures) (two_is _ _ c.size.ensures _ c.if-size-eq1.false)
