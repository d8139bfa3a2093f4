-- `lower_two` takes the steps of two rows of the way forward.
use Rattle.cholesky_solve.proofs.Forward.{lowered_two}
use Rattle.cholesky_solve.proofs.lower_two.Goals as goal

pub returns : goal.returns
returns g c =
    lowered_two _ _ _ _ c.requires.sides.long _ c.requires.k_bound c.divide_one.ensures c.next_row.ensures c.divide_one-2.ensures c.eliminate_two.ensures
