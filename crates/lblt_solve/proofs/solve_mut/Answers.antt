-- `solve_mut` meets its contract.
use Rattle.lblt_solve.proofs.solve_mut.Goals as goal

pub returns : goal.returns
returns c = rw c.full.ensures at c.solve_on.ensures
