-- `readers::copy_column` meets its contract. Assumes nothing.
use native.Mathlib.Omega.{arith}
use Rattle.cholesky.proofs.Columns.{column_inside}
use Rattle.cholesky.proofs.ReaderLoops.{column_copied}
use Rattle.cholesky.proofs.readers.copy_column.Goals as goal

pub copy-requires-clause-from_in_bounds : goal.copy-requires-clause-from_in_bounds
copy-requires-clause-from_in_bounds c = column_inside c.requires.laid (omega arith) c.start.ensures

pub returns : goal.returns
returns c =
    column_copied c.args.y c.args.j c.args.a.now c.args.l.now _ _ _ _ (omega arith) c.start.ensures
    c.clear.ensures c.copy.ensures
