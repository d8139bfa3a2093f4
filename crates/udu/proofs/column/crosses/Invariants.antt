-- `crosses` meets its contract. Assumes nothing.
use Rattle.std.proofs.Common.{◌≡◌, ◌-◌, ◌≤◌, ◌%◌}
use Rattle.udu.proofs.Crossing.{Crossing}
use Rattle.udu.proofs.column.crosses.Given as goal

abbrev pub invariant-loop-k : goal.invariant-loop-k
invariant-loop-k l = record { upto : l.k ≤ l.others; fours : (l.others - l.k) % 4 ≡ 0; crossing : Crossing l.fn.u l.d l.n l.j l.k l.u }

abbrev pub invariant-loop-k-2 : goal.invariant-loop-k-2
invariant-loop-k-2 l = Crossing l.fn.u l.d l.n l.j l.k l.u
