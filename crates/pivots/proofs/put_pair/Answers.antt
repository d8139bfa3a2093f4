-- `put_pair` writes the two words of a row.
use Rattle.pivots.specs.Words.{paired}
use borrow.Author.Rules.{rules}
use Rattle.pivots.proofs.put_pair.Goals as goal

pub returns : goal.returns
unfolding paired
returns c = search rules
