-- `Layout::left_out` meets its contract. Assumes nothing.
use mathlib.Core.Path.{refl}
use Rattle.matrix.specs.inner.Starts.{left_out}
use Rattle.matrix.proofs.Layout.left_out.Goals as goal

pub returns-then-self : goal.returns-then-self
unfolding left_out
returns-then-self c = rw c.if-self.true refl

pub returns : goal.returns
unfolding left_out
returns c = rw c.if-self.false refl
