-- `one_first` meets its contract. Assumes nothing.
use native.Mathlib.Omega.{arith}
use Rattle.handheld.proofs.Pivots.{first_own, first_from1, first_from2}
use Rattle.handheld.proofs.pivot.one_first.Goals as goal

pub returns-then-p-eq1 : goal.returns-then-p-eq1
returns-then-p-eq1 c = first_from1 c.args.t c.if-p-eq1.true c.update_first.ensures

pub returns-then-p-eq2 : goal.returns-then-p-eq2
returns-then-p-eq2 c = first_from2 c.args.t c.if-p-eq2.true c.update_first-then-p-eq2.ensures

pub returns : goal.returns
returns c = first_own c.args.t (omega arith) c.update_first-2.ensures
