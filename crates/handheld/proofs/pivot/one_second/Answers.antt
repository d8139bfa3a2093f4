-- `one_second` meets its contract. Assumes nothing.
use native.Mathlib.Omega.{arith}
use Rattle.handheld.proofs.Pivots.{second_own, second_from2}
use Rattle.handheld.proofs.pivot.one_second.Goals as goal

pub returns-then-p-eq2 : goal.returns-then-p-eq2
returns-then-p-eq2 c = second_from2 c.args.t c.if-p-eq2.true c.update_second.ensures

pub returns : goal.returns
returns c = second_own c.args.t (omega arith) c.update_second-2.ensures
