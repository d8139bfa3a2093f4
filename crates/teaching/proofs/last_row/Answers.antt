-- `last_row` meets its contract. Assumes nothing.
use native.Mathlib.Omega.{arith}
use Rattle.matrix.proofs.Grids.{turned_none, turned_more, turned_all}
use Rattle.matrix.proofs.Sizes.{laid_after}
use Rattle.teaching.proofs.Working.{left_found, row_found}
use Rattle.teaching.proofs.last_row.Goals as goal

pub loop-c-init : goal.loop-c-init
loop-c-init c = turned_none c.requires.laid.sound (omega arith)

pub updated-requires-clause-laid : goal.updated-requires-clause-laid
updated-requires-clause-laid c = laid_after c.requires.laid c.loop-c.invariant.holds

pub get-requires-clause-laid : goal.get-requires-clause-laid
get-requires-clause-laid c = laid_after c.requires.laid c.loop-c.invariant.holds

pub put-requires-clause-laid : goal.put-requires-clause-laid
put-requires-clause-laid c = laid_after c.requires.laid c.loop-c.invariant.holds

pub loop-c-preserved : goal.loop-c-preserved
loop-c-preserved c = turned_more c.loop-c.invariant c.loop-c-test.true (left_found c.args.r c.loop-c.c c.args.y c.updated.ensures c.get.ensures c.put.ensures)

pub diagonal-requires-clause-laid : goal.diagonal-requires-clause-laid
diagonal-requires-clause-laid c = laid_after c.requires.laid c.loop-c.invariant.holds

pub returns : goal.returns
returns c = row_found c.args.r (turned_all c.loop-c.invariant c.loop-c-test.false) c.diagonal.ensures
