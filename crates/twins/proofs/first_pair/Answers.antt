-- `first_pair` meets its contract. Assumes nothing.
use Rattle.std.proofs.Common.{rules}
use Rattle.twins.proofs.Search.{between_start, between_next, between_found, between_all}
use Rattle.twins.proofs.first_pair.Goals as goal

pub loop-q-init : goal.loop-q-init
loop-q-init c = between_start (search rules)

pub returns-in-Some : goal.returns-in-Some
returns-in-Some c = between_found c.loop-q.invariant (search rules) (search rules)

pub loop-q-preserved : goal.loop-q-preserved
loop-q-preserved c = between_next c.loop-q.invariant (search rules) (search rules)

pub returns : goal.returns
returns c = between_all c.loop-q.invariant (search rules)
