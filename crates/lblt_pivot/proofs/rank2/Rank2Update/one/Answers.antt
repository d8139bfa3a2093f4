-- `Rank2` updates a column, then row j of the pivot's columns. Assumes nothing.
use Rattle.lblt_pivot.proofs.Updates.{updates_row}
use Rattle.lblt_pivot.proofs.rank2.Rank2Update.one.Goals as goal

pub returns : goal.returns
returns c = updates_row _ _ _ _ c.work_at-w.ensures c.rank2_column.ensures c.store_work.ensures
