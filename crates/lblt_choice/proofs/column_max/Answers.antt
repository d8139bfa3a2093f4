-- `column_max` meets its contract: a loop over the rows below the first. Assumes nothing.
use Rattle.leaf.specs.Abs.{abs_of}
use Rattle.matrix.proofs.Loops.{ran_none, ran_more, ran_all}
use Rattle.matrix.specs.Grid.{load}
use Rattle.matrix.specs.Layouts.{lower}
use mathlib.Core.Path.{ap, ◌∙◌}
use native.Mathlib.Omega.{arith}
use Rattle.lblt_choice.proofs.Choices.{no_rows, scanned}
use Rattle.lblt_choice.proofs.column_max.Goals as goal

pub returns-then-n-k : goal.returns-then-n-k
returns-then-n-k c = no_rows c.args.y.order (load (lower c.args.y) c.args.a.now) c.args.k c.if-n-k.true

pub loop-i-init : goal.loop-i-init
loop-i-init c = ran_none (omega arith)

pub loop-i-preserved : goal.loop-i-preserved
loop-i-preserved c = ran_more c.loop-i.invariant c.loop-i-test.true c.or_row-top.ensures

pub returns : goal.returns
returns c =
    scanned _ _ _ c.if-n-k.false (c.abs.ensures ∙ ap abs_of c.get.ensures) (ran_all c.loop-i.invariant c.loop-i-test.false)
