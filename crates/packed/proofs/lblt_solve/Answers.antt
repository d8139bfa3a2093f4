-- `lblt_solve` meets its contract. Assumes nothing.
use Rattle.packed.proofs.lblt_solve.Goals as goal

pub returns : goal.returns
returns c = rw c.packed.ensures at c.solve_on.ensures
