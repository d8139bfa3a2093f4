-- `bring1` meets its contract. Assumes nothing.
use borrow.Author.Rules.{rules}
use Rattle.lblt_pivot.proofs.Interchanges.{in_place1, brings1}
use Rattle.lblt_pivot.proofs.interchange.bring1.Goals as goal

pub returns-then-p-k : goal.returns-then-p-k
returns-then-p-k c = in_place1 _ _ _ c.if-p-k.true c.requires.laid.sound

pub returns : goal.returns
returns c = search (rules, brings1)
