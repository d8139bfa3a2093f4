-- `store_work` meets its contract. Assumes nothing.
use Prim.Native.Nat.{◌+◌}
use Rattle.matrix.proofs.Grids.{holds_then}
use Rattle.matrix.specs.Matrix.{Matrix, entry}
use Rattle.lblt_pivot.specs.inner.Engine.{store_work}
use Rattle.lblt_pivot.proofs.rank2.store_work.Goals as goal

pub returns : goal.returns
unfolding store_work
returns c =
    holds_then (λ (M : Matrix). entry M c.args.j (c.args.k + 1) c.args.w.w2) c.put.ensures c.put-2.ensures
