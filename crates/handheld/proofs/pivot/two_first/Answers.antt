-- `two_first` meets its contract. Assumes nothing.
use native.Mathlib.Omega.{arith}
use Rattle.handheld.proofs.Pivots.{both_own, both_from2}
use Rattle.handheld.proofs.pivot.two_first.Goals as goal

pub returns-then-p-eq2 : goal.returns-then-p-eq2
returns-then-p-eq2 c = both_from2 c.args.t c.if-p-eq2.true c.update_both.ensures

pub returns : goal.returns
returns c = both_own c.args.t (omega arith) c.update_both-2.ensures
