-- `product` multiplies the blocks' determinants from 1.
use Rattle.std.proofs.Common.{ap, arith}
use Rattle.matrix.specs.Rounded.{◌⊗◌}
use Rattle.pivots.proofs.Walks.{along_none, along_more, along_all, block_at, rows_positive}
use Rattle.lblt_read.specs.Diagonal.{times_block, determinant_of}
use Rattle.lblt_read.proofs.diagonal.product.Goals as goal

pub loop-k-init : goal.loop-k-init
loop-k-init c = along_none c.requires.accepted

pub determinant_at-determinant-requires-clause-block_at : goal.determinant_at-determinant-requires-clause-block_at
determinant_at-determinant-requires-clause-block_at c = block_at c.requires.accepted c.loop-k.invariant.boundary c.loop-k-test.true

pub loop-k-smaller : goal.loop-k-smaller
loop-k-smaller c = omega (arith, c.determinant_at-determinant.ensures.next, rows_positive c.args.words.now c.loop-k.k)

pub loop-k-preserved : goal.loop-k-preserved
unfolding times_block
loop-k-preserved c = along_more c.loop-k.invariant c.loop-k-test.true c.determinant_at-determinant.ensures.next (ap (◌⊗◌ c.loop-k.x) c.determinant_at-determinant.ensures.determinant)

pub returns : goal.returns
unfolding determinant_of
returns c = along_all c.loop-k.invariant c.loop-k-test.false
