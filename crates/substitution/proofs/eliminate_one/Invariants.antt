-- `eliminate_one` takes column k of the factor, times row k, from the rows below.
use Rattle.std.specs.Prelude.{◌+◌}
use Rattle.substitution.proofs.Sweeps.{Sweeping, written_one}
use Rattle.substitution.proofs.eliminate_one.Given as goal

abbrev pub invariant-loop-i : goal.invariant-loop-i
invariant-loop-i g l = Sweeping g.R.Row.COLUMNS l.n (l.k + 1) (written_one l.a l.start l.k) l.initial.b l.i l.b
