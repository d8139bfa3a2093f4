-- `put` meets its contract. Assumes nothing.
use Prim.Native.Nat.{◌+◌, ◌<◌}
use native.Mathlib.Omega.{arith}
use lib.ListN.{length, length-set}
use Rattle.matrix.specs.Layouts.{start_of, lower, place_in}
use Rattle.matrix.proofs.Grids.{holds_put}
use Rattle.matrix.proofs.Places.{in_lower_law, lower_within}
use Rattle.matrix.proofs.put.Goals as goal

within : (c : goal.After-offset) → c.args.i + start_of c.args.y c.args.j < length c.args.a.now
within c =
    lower_within c.args.y c.args.a.now c.args.i c.args.j c.requires.laid c.requires.j_le_i c.requires.i_lt_order

pub overflow_add-a : goal.overflow_add-a
overflow_add-a c = omega (arith, within c)

pub offset_bounds-a-i : goal.offset_bounds-a-i
offset_bounds-a-i c = omega (arith, within c)

pub bounds-a-i : goal.bounds-a-i
bounds-a-i c = omega (arith, within c)

pub shape_of-a : goal.shape_of-a
shape_of-a c = simp length-set

pub returns : goal.returns
unfolding lower place_in
returns c =
    rw c.offset.ensures
    (holds_put (lower c.args.y) c.args.a.now c.requires.laid.sound c.args.i c.args.j (in_lower_law c.args.y c.args.i c.args.j c.requires.j_le_i c.requires.i_lt_order) c.args.v)
