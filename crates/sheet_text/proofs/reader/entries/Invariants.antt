-- The places still to come and the bytes from `next` on give what all places and the bytes from `at` on give.
use Rattle.sheet_text.specs.inner.Next.{rest_from}
use Rattle.sheet_text.proofs.Entries.{SoFar}
use Rattle.sheet_text.proofs.reader.entries.Given as goal

abbrev pub invariant-loop-p : goal.invariant-loop-p
invariant-loop-p l = SoFar l.s l.at l.n l.initial.a l.a (rest_from l.p-iterator.order l.p-iterator.at) l.count l.next
