-- `engine::update` meets its contract. Assumes nothing.
use mathlib.Core.Path.{refl}
use native.Mathlib.Omega.{arith}
use Rattle.cholesky.proofs.Parts.{leaves_laid}
use Rattle.cholesky.proofs.Columns.{sourced_four, updating_none, updating_more, updating_all, updating_at}
use Rattle.cholesky.proofs.engine.update.Goals as goal
use Rattle.cholesky.proofs.engine.update.Goals.{else-loop-k-test, then-loop-k-test+else-others-k-gt4}

pub loop-k-init : goal.loop-k-init
loop-k-init c = record { fours = refl; updating = updating_none c.requires.laid.sound }

pub loop-k-preserved : goal.loop-k-preserved
loop-k-preserved c = record { fours = omega (arith, c.loop-k.invariant.fours); updating = updating_more 4 c.loop-k.invariant.updating c.requires.reach (omega (arith, c.loop-k.invariant.fours)) c.subtract.ensures }

pub loop-k-2-init : goal.loop-k-2-init
loop-k-2-init c = elim c.loop-k-test.branch [ else-loop-k-test w ↦ updating_at (omega (arith, c.loop-k.invariant.fours, c.loop-k.invariant.updating.upto)) w.a-is c.loop-k.invariant.updating | then-loop-k-test+else-others-k-gt4 w ↦ updating_at (omega (arith, c.loop-k.invariant.fours)) w.a-is (updating_more 4 c.loop-k.invariant.updating c.requires.reach (omega (arith, c.loop-k.invariant.fours)) w.subtract.ensures) ]

pub loop-k-2-preserved : goal.loop-k-2-preserved
loop-k-2-preserved c = updating_more 1 c.loop-k-2.invariant c.requires.reach (omega arith) c.subtract-in-loop-k-2.ensures

pub returns : goal.returns
returns c = updating_all c.loop-k-2.invariant c.loop-k-2-test.false

pub subtract-requires : goal.subtract-requires
subtract-requires c = (
  omega arith,
  (
    leaves_laid c.requires.laid c.loop-k.invariant.updating.leaves,
    (
      c.requires.reach,
      (
        omega (arith, c.loop-k.invariant.fours),
        sourced_four c.source.ensures c.source-in-loop-k.ensures c.source-in-loop-k-2.ensures c.source-in-loop-k-3.ensures,
      ),
    ),
  ),
)
