-- `put_rows` meets its contract: the place in the new rows goes on by the length of each. Assumes nothing.
use mathlib.Core.Path.{◌≡◌}
use Prim.Native.Nat.{◌+◌}
use Rattle.strips.proofs.Strips.{Partway}
use Rattle.packing.specs.Joined.{row_start, new_row}
use Rattle.packing.proofs.put_rows.Given as goal

abbrev pub invariant-loop-i : goal.invariant-loop-i
invariant-loop-i l = Partway l.to l.r l.n (new_row l.m l.rows l.j) l.initial.fresh l.i l.fresh × (l.at ≡ row_start l.m l.i + l.j)
