-- `first_among` meets its contract. Assumes nothing.
use Rattle.twins.proofs.Fingerprints.{cleared}
use Rattle.twins.proofs.first_among.Goals as goal

pub first_pair-requires-clause-cleared : goal.first_pair-requires-clause-cleared
first_pair-requires-clause-cleared g c = cleared _ _ c.requires.order_bound
