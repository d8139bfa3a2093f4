-- `by_ones` meets its contract. Assumes nothing.
use Rattle.handheld.proofs.Solving.{ones_solved}
use Rattle.handheld.proofs.sides.by_ones.Goals as goal

pub returns : goal.returns
returns c = ones_solved c.args.t c.args.b _ c.args.index0 c.args.index1 _ _ _ c.swap_first-s.ensures c.swap_second-u.ensures c.swap_second-v.ensures c.swap_first.ensures
