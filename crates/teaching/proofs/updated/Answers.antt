-- `updated` meets its contract. Assumes nothing.
use mathlib.Core.Path.{sym, ap, ap₂, subst}
use native.Mathlib.Omega.{arith}
use lib.Ieee.{Float, neg}
use Rattle.matrix.specs.Grid.{load}
use Rattle.matrix.specs.Layouts.{lower}
use Rattle.matrix.specs.Rounded.{◌⊕◌, ◌⊗◌}
use Rattle.matrix.proofs.Loops.{Ran, ran_none, ran_more, ran_all}
use Rattle.cholesky.specs.Column.{less, updated}
use Rattle.teaching.proofs.updated.Goals as goal

pub loop-k-init : goal.loop-k-init
loop-k-init c = subst (Ran 0 c.args.c (less (load (lower c.args.y) c.args.a.now) c.args.r c.args.c) (load (lower c.args.y) c.args.a.now c.args.r c.args.c) 0) (sym c.get-x.ensures) (ran_none (omega arith))

pub loop-k-preserved : goal.loop-k-preserved
unfolding less
loop-k-preserved c = ran_more c.loop-k.invariant c.loop-k-test.true (ap (◌⊕◌ c.loop-k.x) (ap₂ (λ (p q : Float). neg p ⊗ q) c.get.ensures c.get-in-loop-k.ensures))

pub returns : goal.returns
unfolding updated
returns c = ran_all c.loop-k.invariant c.loop-k-test.false
