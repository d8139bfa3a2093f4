-- `eliminate_two` takes columns k and k + 1 of the factor, times their rows, from the rows below.
use Rattle.std.specs.Prelude.{◌+◌}
use Rattle.substitution.proofs.Sweeps.{Sweeping, written_two}
use Rattle.substitution.proofs.eliminate_two.Given as goal

abbrev pub invariant-loop-i : goal.invariant-loop-i
invariant-loop-i g l = Sweeping g.R.Row.COLUMNS l.n (l.k + 2) (written_two l.a l.start l.next l.k) l.initial.b l.i l.b
