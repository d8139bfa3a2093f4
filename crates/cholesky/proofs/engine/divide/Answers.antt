-- `engine::divide` meets its contract. Assumes nothing.
use native.Mathlib.Omega.{arith}
use Rattle.cholesky.proofs.Columns.{column_inside, divide_leaves}
use Rattle.cholesky.proofs.engine.divide.Goals as goal

pub unscale-requires-clause-at_in_bounds : goal.unscale-requires-clause-at_in_bounds
unscale-requires-clause-at_in_bounds c = column_inside c.requires.laid (omega arith) c.start.ensures

pub returns : goal.returns
returns c =
    divide_leaves c.requires.laid (omega arith) c.start.ensures c.get-d.ensures c.unscale.ensures
