-- `fill` meets its contract. Assumes nothing.
use native.Mathlib.Omega.{arith}
use Rattle.lblt.proofs.Done.{fills}
use Rattle.lblt.proofs.fill.Goals as goal

pub steps-mark-requires-clause-laid : goal.steps-mark-requires-clause-laid
steps-mark-requires-clause-laid c = c.requires.laid

pub steps-mark-requires-clause-sized : goal.steps-mark-requires-clause-sized
steps-mark-requires-clause-sized c = c.requires.sized

pub put_mark-requires : goal.put_mark-requires
put_mark-requires c = omega (arith, c.requires.sized.total, c.requires.sized.order)

pub put_run-requires : goal.put_run-requires
put_run-requires c = omega (arith, c.requires.sized.total, c.requires.sized.order)

pub returns : goal.returns
returns c = fills (omega (arith, c.requires.sized.total)) c.steps-mark.ensures c.put_mark.ensures c.put_run.ensures
