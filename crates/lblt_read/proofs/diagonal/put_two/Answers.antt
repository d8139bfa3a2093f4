-- `put_two` puts a block of size 2.
use Rattle.lblt_read.proofs.Steps.{put_four}
use Rattle.lblt_read.proofs.diagonal.put_two.Goals as goal

pub returns : goal.returns
returns c = put_four _ _ _ c.get-d11.ensures c.get-d21.ensures c.get-d22.ensures c.put.ensures c.put-2.ensures c.put-3.ensures c.put-4.ensures
