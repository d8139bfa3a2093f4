-- `steps` meets its contract: a loop over the steps. Assumes nothing.
use Rattle.matrix.proofs.Sizes.{laid_after}
use mathlib.Core.Path.{◌∙◌, sym}
use native.Mathlib.Omega.{arith}
use Rattle.lblt.proofs.Going.{going_none, rises, going_more, going_all}
use Rattle.lblt.proofs.steps.Goals as goal

pub loop-s-init : goal.loop-s-init
loop-s-init c = going_none c.requires.laid.sound c.requires.sized

pub step-s-requires-clause-laid : goal.step-s-requires-clause-laid
step-s-requires-clause-laid c = laid_after c.requires.laid c.loop-s.invariant.holds

pub step-s-requires-clause-sized : goal.step-s-requires-clause-sized
step-s-requires-clause-sized c = c.loop-s.invariant.sized

pub step-s-requires-clause-row_lt_order : goal.step-s-requires-clause-row_lt_order
step-s-requires-clause-row_lt_order c = c.loop-s-test.true

pub loop-s-smaller : goal.loop-s-smaller
loop-s-smaller c =
    omega (arith, rises _ _ c.step-s.ensures)

pub loop-s-preserved : goal.loop-s-preserved
loop-s-preserved c =
    going_more c.loop-s.invariant c.loop-s-test.true (omega arith) c.step-s.ensures

pub shape_of-a : goal.shape_of-a
shape_of-a c =
    c.loop-s.invariant.holds.sound.long ∙ sym c.requires.laid.sound.long

pub shape_of-words : goal.shape_of-words
shape_of-words c =
    c.loop-s.invariant.sized.total ∙ sym c.requires.sized.total

pub returns : goal.returns
returns c = going_all c.loop-s.invariant c.loop-s-test.false
