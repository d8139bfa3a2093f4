-- `pass_fours` meets its contract. Assumes nothing.
use Rattle.std.proofs.Common.{◌*◌}
use Rattle.twins.specs.inner.Fingerprints.{OthersPassed}
use Rattle.twins.proofs.pass_fours.Given as goal

abbrev pub invariant-loop-t : goal.invariant-loop-t
invariant-loop-t l = OthersPassed l.fingerprints l.q (4 * l.t)
