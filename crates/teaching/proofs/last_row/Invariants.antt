-- `last_row` meets its contract. Assumes nothing.
use Rattle.matrix.specs.Layouts.{lower}
use Rattle.matrix.proofs.Grids.{Turned}
use Rattle.teaching.specs.inner.Rows.{left_of}
use Rattle.teaching.proofs.last_row.Given as goal

abbrev pub invariant-loop-c : goal.invariant-loop-c
invariant-loop-c l = Turned (lower l.y) 0 l.r (left_of l.r) l.initial.a l.c l.a
