-- `of_columns` meets its contract. Assumes nothing.
use Rattle.handheld.proofs.Listed.{nine_listed}
use borrow.Author.Rules.{rules}
use Rattle.handheld.proofs.numbers.of_columns.Goals as goal

pub returns : goal.returns
returns c = nine_listed c.args.matrix _ (search rules) c.of_column-first.ensures c.of_column-second.ensures c.of_column-third.ensures
