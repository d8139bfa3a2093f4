-- `number_of`: by the size of the row.
use Rattle.std.proofs.Common.{ℕ, ◌+◌, pos, neg_ℤ, ap, ◌∙◌}
use Rattle.pivots.specs.Words.{index_at}
use Rattle.pivots.proofs.Walks.{one_is, two_is}
use Rattle.pivots_lapack.proofs.Signed.{itself}
use Rattle.pivots_lapack.proofs.write.number_of.Goals as goal

pub returns-then-size-eq1 : goal.returns-then-size-eq1
returns-then-size-eq1 c = itself c.one.result c.one.type_inv ∙ c.one.ensures ∙ ap (λ (i : ℕ). pos (i + 1)) c.index-index.ensures ∙ one_is c.args.words.now c.args.row c.size.ensures (neg_ℤ (pos (index_at c.args.words.now c.args.row + 1))) c.if-size-eq1.true

pub returns : goal.returns
returns c = itself c.two.result c.two.type_inv ∙ c.two.ensures ∙ ap (λ (i : ℕ). neg_ℤ (pos (i + 1))) c.index-index.ensures ∙ two_is c.args.words.now c.args.row c.size.ensures (pos (index_at c.args.words.now c.args.row + 1)) c.if-size-eq1.false
