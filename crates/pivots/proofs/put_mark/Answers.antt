-- `put_mark` writes the word after the pairs.
use Rattle.pivots.specs.Words.{marked}
use borrow.Author.Rules.{rules}
use Rattle.pivots.proofs.put_mark.Goals as goal

pub returns : goal.returns
unfolding marked
returns c = search rules
