-- `by_rows` meets its contract. Assumes nothing.
use Prim.Native.Nat.{◌*◌}
use Rattle.matrix.specs.Grid.{load}
use Rattle.matrix.specs.Layouts.{upper}
use Rattle.strips.proofs.Strips.{Partway}
use Rattle.udu.specs.Columns.{further_entry}
use Rattle.udu.specs.inner.Contracts.{factors_in}
use Rattle.udu.proofs.column.by_rows.Given as goal

abbrev pub invariant-loop-i : goal.invariant-loop-i
invariant-loop-i l = Partway (l.j * l.n) 0 l.j (further_entry l.n (load (upper l.n) l.p) (factors_in l.n l.initial.u l.d) l.x l.j) l.initial.u l.i l.u
