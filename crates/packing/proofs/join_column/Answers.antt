-- `join_column` meets its contract: the rows of the old triangle, then the new ones. Assumes nothing.
use mathlib.Core.Path.{◌∙◌, ap}
use native.Mathlib.Omega.{arith}
use Rattle.matrix.specs.declared.Layout.{Layout}
use Rattle.matrix.specs.Layouts.{start_of}
use Rattle.matrix.proofs.Triangles.{packed_column}
use Rattle.strips.proofs.Strips.{strip_as, strip_at, strip_join}
use Rattle.packing.proofs.Joining.{joined_new, joined_old, column_room}
use Rattle.packing.proofs.join_column.Goals as goal

pub returns-then-m-j : goal.returns-then-m-j
returns-then-m-j c = strip_at (c.start-to.ensures ∙ ap (λ (y : Layout). start_of y c.args.j) c.packed.ensures) (strip_as c.put_rows.ensures (λ i from upto. joined_new c.args.m c.args.old.now c.args.rows.now i c.args.j (omega (arith, c.if-m-j.true))))

pub copy-requires-clause-from_in_bounds : goal.copy-requires-clause-from_in_bounds
copy-requires-clause-from_in_bounds c = omega (arith, packed_column c.args.m c.args.j (omega (arith, c.if-m-j.false)), c.start.ensures ∙ ap (λ (y : Layout). start_of y c.args.j) c.packed-2.ensures, c.requires.parts.first)

pub copy-requires-clause-to_in_bounds : goal.copy-requires-clause-to_in_bounds
copy-requires-clause-to_in_bounds c = omega (arith, column_room c.requires.parts.further c.requires.j_lt_n (c.start-to.ensures ∙ ap (λ (y : Layout). start_of y c.args.j) c.packed.ensures), c.requires.parts.further.rising)

pub returns : goal.returns
returns c = strip_at (c.start-to.ensures ∙ ap (λ (y : Layout). start_of y c.args.j) c.packed.ensures) (strip_join (omega (arith, c.if-m-j.false)) c.requires.parts.further.rising (strip_as c.copy.ensures (λ i from upto. joined_old c.args.m c.args.old.now c.args.rows.now i c.args.j c.start.result (c.start.ensures ∙ ap (λ (y : Layout). start_of y c.args.j) c.packed-2.ensures) from upto)) (strip_as c.put_rows-2.ensures (λ i from upto. joined_new c.args.m c.args.old.now c.args.rows.now i c.args.j from)))
