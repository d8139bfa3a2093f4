-- `ones`: three blocks of one row.
use Rattle.lblt_tray.proofs.ThreeRows.{three_solved}
use Rattle.lblt_tray.proofs.three.ones.Goals as goal

pub returns : goal.returns
returns c = three_solved c.requires.item c.requires.ends c.put_triangle.ensures c.put_record.ensures c.side.ensures c.by_ones-s.ensures c.put_side.ensures
