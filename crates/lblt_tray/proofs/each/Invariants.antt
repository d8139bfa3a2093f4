-- `each`: item by item.

use Rattle.lblt_tray.specs.inner.Engine.{SolvedBefore}
use Rattle.lblt_tray.proofs.each.Given as goal

abbrev pub invariant-loop-t : goal.invariant-loop-t
invariant-loop-t l = SolvedBefore l.n l.t l.initial.a l.initial.words l.initial.b l.runs l.initial.answers l.a l.words l.b l.answers
