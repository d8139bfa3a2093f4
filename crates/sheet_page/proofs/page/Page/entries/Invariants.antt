-- The lines of the places from `p` on are still to come.
use Rattle.sheet_text.specs.inner.Next.{rest_from}
use Rattle.sheet_page.proofs.Loops.{EntriesSoFar}
use Rattle.sheet_page.proofs.page.Page.entries.Given as goal

abbrev pub invariant-loop-p : goal.invariant-loop-p
invariant-loop-p l = EntriesSoFar l.initial.self l.n l.a l.self (rest_from l.p-iterator.order l.p-iterator.at) l.count
