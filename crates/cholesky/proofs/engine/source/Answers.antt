-- `engine::source` meets its contract. Assumes nothing.
use mathlib.Core.Path.{sym, ap, ◌∙◌}
use Prim.Native.Nat.{ℕ, ◌+◌}
use native.Mathlib.Omega.{arith}
use lib.ListN.{get_or}
use lib.Ieee.{neg, nan}
use Rattle.matrix.proofs.Places.{lower_at, lower_within}
use Rattle.cholesky.proofs.engine.source.Goals as goal

pub overflow_add-result : goal.overflow_add-result
overflow_add-result c = omega (arith, lower_within c.args.y c.args.a.now c.args.j c.args.k c.requires.laid (omega (arith, c.requires)) c.requires.j_lt_order, c.start-start.ensures)

pub offset_bounds-a-j : goal.offset_bounds-a-j
offset_bounds-a-j c = omega (arith, lower_within c.args.y c.args.a.now c.args.j c.args.k c.requires.laid (omega (arith, c.requires)) c.requires.j_lt_order, c.start-start.ensures)

pub bounds-a-j : goal.bounds-a-j
bounds-a-j c = omega (arith, lower_within c.args.y c.args.a.now c.args.j c.args.k c.requires.laid (omega (arith, c.requires)) c.requires.j_lt_order, c.start-start.ensures)

pub returns : goal.returns
returns c = record { start = c.start-start.ensures; scale = ap neg (ap (λ (s : ℕ). get_or c.args.a.now (c.args.j + s) nan) c.start-start.ensures ∙ sym (lower_at c.args.y c.args.a.now c.args.j c.args.k (omega (arith, c.requires)) c.requires.j_lt_order)) }
