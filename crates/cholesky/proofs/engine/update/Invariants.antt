-- `engine::update` meets its contract. Assumes nothing.
use Rattle.std.proofs.Common.{◌≡◌, ◌%◌}
use Rattle.cholesky.proofs.Columns.{Updating}
use Rattle.cholesky.proofs.engine.update.Given as goal

abbrev pub invariant-loop-k : goal.invariant-loop-k
invariant-loop-k l = record { fours : l.k % 4 ≡ 0; updating : Updating l.y l.r l.j l.initial.a l.k l.a }

abbrev pub invariant-loop-k-2 : goal.invariant-loop-k-2
invariant-loop-k-2 l = Updating l.y l.r l.j l.fn.a l.k l.a
