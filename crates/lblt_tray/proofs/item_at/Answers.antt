-- `item_at`: an item's parts are lent out of the tray, and come back.
use Rattle.std.proofs.Common.{length, arith}
use Rattle.matrix.proofs.Columns.{column_within}
use Rattle.pivots.specs.Words.{words_of}
use Rattle.lblt_tray.proofs.Items.{one_solved}
use Rattle.lblt_tray.proofs.item_at.Goals as goal

pub slice_bounds-item-end-2 : goal.slice_bounds-item-end-2
slice_bounds-item-end-2 c = rw c.words-pairs.ensures (omega (arith, column_within (words_of c.args.n) (length c.args.runs.now) c.args.t c.requires.t_in_bounds))

pub returns : goal.returns
returns c = rw c.words-pairs.ensures (one_solved c.requires.trayed c.args.t c.requires.t_in_bounds c.item.auto.a (rw c.words-pairs.ensures at c.item.auto.words) c.item.auto.b (rw c.words-pairs.ensures at c.item.ensures))
