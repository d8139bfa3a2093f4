-- `by_pairs::all` meets its contract. Assumes nothing.
use native.Mathlib.Omega.{arith}
use Rattle.matrix.proofs.Grids.{turned_none, turned_two, turned_more, turned_all}
use Rattle.lblt_pivot.proofs.by_pairs.all.Goals as goal

pub loop-j-init : goal.loop-j-init
loop-j-init g c = turned_none c.requires.laid.sound (omega arith)

pub loop-j-preserved : goal.loop-j-preserved
loop-j-preserved g c = turned_two c.loop-j.invariant (omega arith) c.two.ensures

pub returns-then-j-n : goal.returns-then-j-n
returns-then-j-n g c = turned_all (turned_more c.loop-j.invariant (omega arith) c.one.ensures) (omega arith)

pub returns-else-j-n : goal.returns-else-j-n
returns-else-j-n g c = turned_all c.loop-j.invariant (omega arith)
