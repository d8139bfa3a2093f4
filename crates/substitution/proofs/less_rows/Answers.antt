-- `less_rows` takes the products of the rows from one on with a column of the factor from a row.
use Rattle.std.proofs.Common.{arith, sym, ◌≡◌, ◌∙◌}
use Rattle.matrix.proofs.Loops.{for_none, for_more}
use Rattle.substitution.proofs.Offsets.{less_product_law}
use Rattle.substitution.proofs.less_rows.Goals as goal

pub loop-i-init : goal.loop-i-init
loop-i-init g c j below = sym (for_none _ _ _)

pub loop-i-preserved : goal.loop-i-preserved
loop-i-preserved g c j below =
    c.less-less.ensures j below ∙ rw (c.loop-i.invariant j below, c.of.ensures j below) (sym (for_more _ _ _ _ c.loop-i.auto.i))

pub returns : goal.returns
returns g c j below =
    c.loop-i.invariant j below
    ∙ rw (let end : c.loop-i.i ≡ c.args.y.order = omega (arith, c.loop-i.auto, c.loop-i-test.false, c.requires.from_le_order) in end)
    (less_product_law _ _ _ _ c.start-start.ensures _ c.requires.row_lt_from _ _)
