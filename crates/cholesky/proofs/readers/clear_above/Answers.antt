-- `readers::clear_above` meets its contract. Assumes nothing.
use native.Mathlib.Omega.{arith}
use Rattle.cholesky.proofs.Columns.{column_inside}
use Rattle.cholesky.proofs.ReaderLoops.{unpacking_more, unpacking_all}
use Rattle.cholesky.proofs.readers.clear_above.Goals as goal

pub clear-requires-clause-at_in_bounds : goal.clear-requires-clause-at_in_bounds
clear-requires-clause-at_in_bounds c = omega (arith, c.loop-j.invariant.long, column_inside c.requires.laid (omega arith) c.start.ensures)

pub loop-j-preserved : goal.loop-j-preserved
loop-j-preserved c =
    unpacking_more c.start.result c.loop-j.invariant
    c.requires.packed_value c.requires.laid.roomy c.loop-j-test.true
    c.start.ensures c.clear.ensures

pub returns : goal.returns
returns c = unpacking_all c.loop-j.invariant c.loop-j-test.false c.requires.packed_value c.requires.laid
