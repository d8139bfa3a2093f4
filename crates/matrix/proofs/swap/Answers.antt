-- `swap` meets its contract. Assumes nothing.
use Rattle.matrix.specs.Matrix.{Matrix, entry, exchange}
use Rattle.matrix.proofs.Grids.{holds_then}
use Rattle.matrix.proofs.swap.Goals as goal

pub returns : goal.returns
unfolding exchange
returns c =
    rw (c.get-x.ensures, c.get.ensures) at
    (holds_then (λ (M : Matrix). entry M c.args.r c.args.c c.get-x.result) c.put.ensures c.put-2.ensures)
