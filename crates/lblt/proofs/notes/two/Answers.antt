-- `two` meets its contract. Assumes nothing.
use Rattle.lblt.proofs.notes.two.Goals as goal

pub returns : goal.returns
returns c =
    rw c.put_pair.ensures at c.put_pair-2.ensures
