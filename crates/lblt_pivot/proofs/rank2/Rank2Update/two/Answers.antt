-- `Rank2` updates two columns, then rows j and j + 1 of the pivot's columns. Assumes nothing.
use native.Mathlib.Omega.{arith}
use Rattle.lblt_pivot.proofs.Pairs.{pairs2}
use Rattle.lblt_pivot.proofs.rank2.Rank2Update.two.Goals as goal

pub returns : goal.returns
returns c =
    pairs2 _ _ _ _ (omega (arith, c.requires)) (omega (arith, c.requires)) c.work_at-w.ensures c.work_at-v.ensures c.rank2_at.ensures c.rows.ensures c.store_work.ensures c.store_work-2.ensures
