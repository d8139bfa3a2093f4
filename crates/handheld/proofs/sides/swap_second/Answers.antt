-- `swap_second` meets its contract. Assumes nothing.
use native.Mathlib.Omega.{arith}
use Rattle.handheld.proofs.Solving.{swap_12, swap_none1}
use Rattle.handheld.proofs.sides.swap_second.Goals as goal

pub returns-then-p-eq2 : goal.returns-then-p-eq2
returns-then-p-eq2 c = swap_12 c.args.s c.if-p-eq2.true

pub returns : goal.returns
returns c = swap_none1 c.args.s (omega arith)
