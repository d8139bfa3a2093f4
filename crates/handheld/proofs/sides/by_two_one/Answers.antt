-- `by_two_one` meets its contract. Assumes nothing.
use Rattle.handheld.proofs.Solving.{two_one_solved}
use Rattle.handheld.proofs.sides.by_two_one.Goals as goal

pub returns : goal.returns
returns c = two_one_solved c.args.t c.args.b _ c.args.index0 _ c.swap_second-s.ensures c.swap_second.ensures
