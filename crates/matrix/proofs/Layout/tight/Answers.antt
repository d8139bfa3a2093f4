-- `Layout::tight` meets its contract. Assumes nothing.
use mathlib.Core.Path.{sym, ap}
use Prim.Native.Nat.{ℕ}
use Rattle.matrix.proofs.Layout.tight.Goals as goal

pub returns : goal.returns
returns c = ap (λ (room : ℕ). record { order = c.args.self.order; room = room; packed = c.args.self.packed }) (sym c.requires)
