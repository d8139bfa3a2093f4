-- `put_block` puts one diagonal block.
use Rattle.std.proofs.Common.{◌∙◌, ap, arith}
use Rattle.matrix.specs.Matrix.{entry}
use Rattle.matrix.proofs.Grids.{holds_as}
use Rattle.pivots.proofs.Walks.{one_is, two_is, reads_two}
use Rattle.lblt_read.specs.Diagonal.{diagonal_block}
use Rattle.lblt_read.proofs.diagonal.put_block.Goals as goal

pub returns-then-size-eq1 : goal.returns-then-size-eq1
unfolding diagonal_block
returns-then-size-eq1 c = holds_as c.put.ensures (ap (entry _ _ _) c.get.ensures ∙ one_is _ _ c.size.ensures _ c.if-size-eq1.true)

pub put_two-requires-clause-k_bound : goal.put_two-requires-clause-k_bound
put_two-requires-clause-k_bound c = omega (arith, reads_two c.args.words.now c.args.k c.size.ensures c.if-size-eq1.false)

pub returns-else-size-eq1 : goal.returns-else-size-eq1
unfolding diagonal_block
returns-else-size-eq1 c = holds_as c.put_two.ensures (two_is _ _ c.size.ensures _ c.if-size-eq1.false)
