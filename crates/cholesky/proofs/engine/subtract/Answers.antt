-- `engine::subtract` meets its contract. Assumes nothing.
use Prim.Native.Nat.{◌<◌}
use Rattle.std.proofs.Common.{rules}
use native.Mathlib.Omega.{arith}
use Rattle.cholesky.proofs.Columns.{column_inside, source_elsewhere, subtract_leaves}
use Rattle.cholesky.proofs.engine.subtract.Goals as goal

pub axpy-requires : goal.axpy-requires
axpy-requires g c = (
  omega (arith, c.requires.laid.roomy.small, c.requires.laid.roomy.ordered, c.requires.reach.column),
  (
    c.requires.reach.upto,
    (
      column_inside c.requires.laid c.requires.reach.column c.start.ensures,
      λ k s below. let w : k < g.row.W = search rules in source_elsewhere c.requires.laid c.requires.reach (omega arith) (c.requires.sourced k s w) c.start.ensures,
    ),
  ),
)

pub returns : goal.returns
returns g c =
    subtract_leaves c.requires.laid c.args.k g.row.W c.args.columns c.requires.reach c.requires.k_bound c.start.ensures (search rules) c.requires.sourced c.axpy.ensures
