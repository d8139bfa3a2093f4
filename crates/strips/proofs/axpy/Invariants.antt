-- `axpy` meets its contract. Assumes nothing.
use Rattle.std.proofs.Common.{◌≡◌, take, fold}
use Rattle.strips.specs.inner.Strip.{row_at, plus, axpy_of}
use Rattle.strips.proofs.Strips.{Partway}
use Rattle.strips.proofs.axpy.Given as goal

abbrev pub invariant-loop-i : goal.invariant-loop-i
invariant-loop-i g l = Partway l.to l.lo l.hi (axpy_of l.initial.a l.to l.sources) l.initial.a l.i l.a

abbrev pub invariant-loop-s : goal.invariant-loop-s
invariant-loop-s g l = l.x ≡ fold (λ x s. plus l.a s l.i x) (row_at l.a l.to l.i) (take l.s-index l.sources)
