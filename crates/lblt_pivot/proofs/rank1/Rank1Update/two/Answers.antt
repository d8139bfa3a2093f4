-- `Rank1` updates two columns: row j of column j, then the rows below of both. Assumes nothing.
use native.Mathlib.Omega.{arith}
use Rattle.lblt_pivot.proofs.Pairs.{pairs1}
use Rattle.lblt_pivot.proofs.rank1.Rank1Update.two.Goals as goal

pub returns : goal.returns
returns c = pairs1 _ _ _ _ (omega (arith, c.requires)) (omega (arith, c.requires)) c.get.ensures c.get-2.ensures c.rank1_at.ensures c.rows.ensures
