-- `solve` goes over the columns, step by step.
use Prim.Native.Nat.{◌-◌}
use lib.ListN.{length}
use Rattle.matrix.specs.Grid.{load}
use Rattle.matrix.specs.Layouts.{lower}
use Rattle.matrix.specs.Columns.{at_chosen}
use Rattle.matrix.proofs.Turning.{Turning}
use Rattle.lblt_solve_columns.specs.Column.{solve_column}
use Rattle.lblt_bench.specs.Bench.{owns}
use Rattle.lblt_bench.proofs.own.solve.Given as goal

abbrev pub invariant-loop-j : goal.invariant-loop-j
invariant-loop-j l = Turning 0 (length l.benches) (at_chosen l.y.order (owns l.benches l.bench) (solve_column l.y.order (load (lower l.y) l.a) l.words)) l.initial.b l.j l.b

abbrev pub decreases-loop-j : goal.decreases-loop-j
decreases-loop-j l = length l.benches - l.j
