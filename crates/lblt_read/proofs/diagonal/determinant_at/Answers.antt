-- `determinant_at` is one block's determinant, and the row after it.
use Rattle.std.proofs.Common.{◌+◌, sym, ap, ◌∙◌, arith}
use Rattle.pivots.proofs.Walks.{one_is, two_is, reads_one, reads_two}
use Rattle.lblt_read.proofs.diagonal.determinant_at.Goals as goal

pub returns-then-size-eq1 : goal.returns-then-size-eq1
returns-then-size-eq1 c = record {
  determinant = c.get.ensures ∙ one_is _ _ c.size.ensures _ c.if-size-eq1.true;
  next = ap (◌+◌ c.args.k) (sym (reads_one _ _ c.size.ensures c.if-size-eq1.true));
}

pub block_determinant-requires-clause-k_bound : goal.block_determinant-requires-clause-k_bound
block_determinant-requires-clause-k_bound c = omega (arith, reads_two c.args.words.now c.args.k c.size.ensures c.if-size-eq1.false)

pub returns-else-size-eq1 : goal.returns-else-size-eq1
returns-else-size-eq1 c = record {
  determinant = c.block_determinant.ensures ∙ two_is _ _ c.size.ensures _ c.if-size-eq1.false;
  next = ap (◌+◌ c.args.k) (sym (reads_two _ _ c.size.ensures c.if-size-eq1.false));
}
