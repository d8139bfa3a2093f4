-- `by_one_two` meets its contract. Assumes nothing.
use Rattle.handheld.proofs.Solving.{one_two_solved}
use Rattle.handheld.proofs.sides.by_one_two.Goals as goal

pub returns : goal.returns
returns c = one_two_solved c.args.t c.args.b _ c.args.index0 _ c.swap_first-s.ensures c.swap_first.ensures
