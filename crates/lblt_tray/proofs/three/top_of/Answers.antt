-- `top_of`: the second row only where it is larger.
use mathlib.Core.Path.{refl}
use Rattle.lblt_tray.specs.inner.Three.{top_of}
use Rattle.lblt_tray.proofs.three.top_of.Goals as goal

pub returns-then-two-one : goal.returns-then-two-one
unfolding top_of
returns-then-two-one c = rw c.if-two-one.true refl

pub returns : goal.returns
unfolding top_of
returns c = rw c.if-two-one.false refl
