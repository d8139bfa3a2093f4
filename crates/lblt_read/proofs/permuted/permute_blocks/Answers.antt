-- The blocks one after the other.
use Rattle.std.proofs.Common.{◌+◌, refl, ap, ◌∙◌, arith}
use Rattle.pivots.proofs.Walks.{along_none, along_more, along_all, block_at, rows_positive}
use Rattle.lblt_read.proofs.Steps.{rows_read}
use Rattle.lblt_read.proofs.permuted.permute_blocks.Goals as goal

pub loop-k-init : goal.loop-k-init
loop-k-init c = record { along = along_none c.requires.readable.accepted; long = refl }

pub permute_block-requires-clause-block_at : goal.permute_block-requires-clause-block_at
permute_block-requires-clause-block_at c = block_at c.requires.readable.accepted c.loop-k.invariant.along.boundary c.loop-k-test.true

pub loop-k-smaller : goal.loop-k-smaller
loop-k-smaller c = omega (arith, c.size-k.ensures, rows_read c.loop-k.invariant.along.boundary c.loop-k-test.true, rows_positive c.args.words.now c.loop-k.k)

pub loop-k-preserved : goal.loop-k-preserved
loop-k-preserved c = record {
  along = along_more c.loop-k.invariant.along c.loop-k-test.true (ap (◌+◌ c.loop-k.k) (c.size-k.ensures ∙ rows_read c.loop-k.invariant.along.boundary c.loop-k-test.true)) c.permute_block.ensures.cells;
  long = c.permute_block.auto.l ∙ c.loop-k.invariant.long;
}

pub returns : goal.returns
returns c = record { long = c.loop-k.invariant.long ∙ c.requires.squared.long; cells = along_all c.loop-k.invariant.along c.loop-k-test.false }
