-- `swap_first` meets its contract. Assumes nothing.
use native.Mathlib.Omega.{arith}
use Rattle.handheld.proofs.Solving.{swap_01, swap_02, swap_none0}
use Rattle.handheld.proofs.sides.swap_first.Goals as goal

pub returns-then-p-eq1 : goal.returns-then-p-eq1
returns-then-p-eq1 c = swap_01 c.args.s c.if-p-eq1.true

pub returns-then-p-eq2 : goal.returns-then-p-eq2
returns-then-p-eq2 c = swap_02 c.args.s c.if-p-eq2.true

pub returns : goal.returns
returns c = swap_none0 c.args.s (omega arith)
