-- `one_two`: a block of one row, then one of two.
use Rattle.lblt_tray.proofs.ThreeRows.{three_solved}
use Rattle.lblt_tray.proofs.three.one_two.Goals as goal

pub returns : goal.returns
returns c = three_solved c.requires.item c.requires.ends c.put_triangle.ensures c.put_record.ensures c.side.ensures c.by_one_two-s.ensures c.put_side.ensures
