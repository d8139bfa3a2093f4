-- `row` meets its contract. Assumes nothing.
use Prim.Native.Nat.{◌+◌}
use Rattle.matrix.specs.Rounded.{plus_zero}
use Rattle.matrix.proofs.Loops.{Ran}
use Rattle.udu.specs.Columns.{plus_cross}
use Rattle.udu.specs.inner.Contracts.{factors_in}
use Rattle.udu.proofs.column.row.Given as goal

abbrev pub invariant-loop-k : goal.invariant-loop-k
invariant-loop-k l = Ran (l.j + 1) l.n (plus_cross (factors_in l.n l.u l.d) l.j l.i) plus_zero l.k l.sum
