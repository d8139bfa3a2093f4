-- `two_one`: a block of two rows, then one of one.
use Rattle.lblt_tray.proofs.ThreeRows.{three_solved}
use Rattle.lblt_tray.proofs.three.two_one.Goals as goal

pub returns : goal.returns
returns c = three_solved c.requires.item c.requires.ends c.put_triangle.ensures c.put_record.ensures c.side.ensures c.by_two_one-s.ensures c.put_side.ensures
