-- `put_rows` meets its contract: the place in the new rows goes on by the length of each. Assumes nothing.
use mathlib.Core.Path.{refl, ap}
use Prim.Native.Nat.{ℕ}
use native.Mathlib.Omega.{arith}
use lib.ListN.{get_or}
use lib.Ieee.{nan}
use Rattle.matrix.proofs.Places.{entries_small}
use Rattle.matrix.proofs.Triangles.{entries_rise}
use Rattle.strips.proofs.Strips.{strip_none, strip_more}
use Rattle.packing.specs.Joined.{row_start, new_row}
use Rattle.packing.proofs.Joining.{row_next, new_within, new_small, column_room}
use Rattle.packing.proofs.put_rows.Goals as goal

pub overflow_sub-at : goal.overflow_sub-at
overflow_sub-at c = omega (arith, entries_rise c.args.m c.args.r c.requires.j_le_r.1, c.entries.ensures, c.entries-2.ensures)

pub overflow_add-at : goal.overflow_add-at
overflow_add-at c = let small = entries_small c.args.r (omega (arith, c.requires)) in omega (arith, small, c.entries.ensures, c.requires)

pub loop-i-init : goal.loop-i-init
unfolding row_start
loop-i-init c = (strip_none c.requires.r_le_n.0, rw (c.entries.ensures, c.entries-2.ensures) refl)

pub offset_bounds-rows-at : goal.offset_bounds-rows-at
offset_bounds-rows-at c = let small = new_small c.loop-i.i c.args.j c.requires.new_rows c.loop-i.invariant.0.upto c.requires.r_le_n.1 in omega (arith, small, c.loop-i.invariant.1)

pub bounds-rows-at : goal.bounds-rows-at
bounds-rows-at c =
    let inside = new_within c.loop-i.i c.args.j c.requires.new_rows (omega (arith, c.loop-i.invariant.0.from, c.requires.j_le_r)) c.loop-i-test.true (omega (arith, c.loop-i.invariant.0.from, c.requires.j_le_r)) in
    omega (arith, inside, c.loop-i.invariant.1)

pub overflow_add-fresh : goal.overflow_add-fresh
overflow_add-fresh c = let small = entries_small c.args.n c.requires.new_rows.small in omega (arith, small, column_room c.requires.new_rows c.requires.r_le_n.1 c.requires.to_value, c.loop-i-test.true, c.requires.new_rows.room)

pub offset_bounds-fresh-i : goal.offset_bounds-fresh-i
offset_bounds-fresh-i c = let small = entries_small c.args.n c.requires.new_rows.small in omega (arith, small, column_room c.requires.new_rows c.requires.r_le_n.1 c.requires.to_value, c.loop-i-test.true, c.requires.new_rows.room)

pub bounds-fresh-i : goal.bounds-fresh-i
bounds-fresh-i c = omega (arith, column_room c.requires.new_rows c.requires.r_le_n.1 c.requires.to_value, c.loop-i.invariant.0.strip.long, c.loop-i-test.true)

pub overflow_add-at-in-loop-i-2 : goal.overflow_add-at-in-loop-i-2
overflow_add-at-in-loop-i-2 c = let small = new_small c.loop-i.i c.args.j c.requires.new_rows c.loop-i.invariant.0.upto c.requires.r_le_n.1 in omega (arith, small, c.loop-i.invariant.1, c.requires.new_rows.small, c.loop-i-test.true)

pub loop-i-preserved : goal.loop-i-preserved
loop-i-preserved c = (
  strip_more _ c.loop-i.invariant.0 c.loop-i-test.true (column_room c.requires.new_rows c.requires.r_le_n.1 c.requires.to_value) (unfold new_row in ap (λ (at : ℕ). get_or c.args.rows.now at nan) c.loop-i.invariant.1),
  omega (arith, c.loop-i.invariant.1, row_next c.args.m c.loop-i.i (omega (arith, c.loop-i.invariant.0.from, c.requires.j_le_r))),
)
