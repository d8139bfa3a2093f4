-- `row_max` meets its contract: a loop along the row, and one down the column. Assumes nothing.
use mathlib.Core.Bool.{not}
use Prim.Native.Nat.{◌+◌}
use lib.Dec.{T}
use lib.Ieee.{is_nan}
use Rattle.matrix.specs.Grid.{load}
use Rattle.matrix.specs.Layouts.{lower}
use Rattle.matrix.proofs.Loops.{Ran}
use Rattle.lblt_choice.specs.Choice.{along_row, down_column}
use Rattle.lblt_choice.proofs.row_max.Given as goal

abbrev pub invariant-loop-j : goal.invariant-loop-j
invariant-loop-j l = Ran l.k l.i (along_row (load (lower l.y) l.a) l.i) l.initial.rowmax l.j l.rowmax × T (not (is_nan l.rowmax))

abbrev pub invariant-loop-j-2 : goal.invariant-loop-j-2
invariant-loop-j-2 l = Ran (l.i + 1) l.n (down_column (load (lower l.y) l.a) l.i) l.initial.rowmax l.j l.rowmax × T (not (is_nan l.rowmax))
