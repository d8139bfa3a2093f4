-- `put_run` writes the last word.
use Rattle.pivots.specs.Words.{stamped}
use borrow.Author.Rules.{rules}
use Rattle.pivots.proofs.put_run.Goals as goal

pub returns : goal.returns
unfolding stamped
returns c = search rules
