-- `get` meets its contract. Assumes nothing.
use mathlib.Core.Path.{sym}
use native.Mathlib.Omega.{arith}
use Rattle.matrix.proofs.Places.{lower_at, lower_within}
use Rattle.matrix.proofs.get.Goals as goal

pub overflow_add-result : goal.overflow_add-result
overflow_add-result c = omega (arith, lower_within c.args.y c.args.a.now c.args.i c.args.j c.requires.laid c.requires.j_le_i c.requires.i_lt_order)

pub offset_bounds-a-i : goal.offset_bounds-a-i
offset_bounds-a-i c = omega (arith, lower_within c.args.y c.args.a.now c.args.i c.args.j c.requires.laid c.requires.j_le_i c.requires.i_lt_order)

pub bounds-a-i : goal.bounds-a-i
bounds-a-i c = omega (arith, lower_within c.args.y c.args.a.now c.args.i c.args.j c.requires.laid c.requires.j_le_i c.requires.i_lt_order)

pub returns : goal.returns
returns c = rw c.offset.ensures (sym (lower_at c.args.y c.args.a.now c.args.i c.args.j c.requires.j_le_i c.requires.i_lt_order))
