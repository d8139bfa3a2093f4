-- `check_sides`: the columns, the tests of size, then the slice of columns.
use Rattle.std.proofs.Common.{arith}
use Rattle.answer.proofs.Done.{handed_on}
use Rattle.matrix.proofs.Places.{product_small}
use Rattle.lblt_read.proofs.Admitted.{order_small, matrix_wrong, sides_wrong, sides_right, columns_many}
use Rattle.lblt_read.proofs.check_sides.Goals as goal

pub returns-then-columns-gt1024 : goal.returns-then-columns-gt1024
returns-then-columns-gt1024 c =
    columns_many c.args.y c.args.columns c.args.a.now c.args.b.now c.if-columns-gt1024.true

pub returns-in_err-check : goal.returns-in_err-check
returns-in_err-check c =
    rw (handed_on _ c.from_residual.ensures.1) (matrix_wrong c.args.y c.args.columns c.if-columns-gt1024.false c.args.a.now c.args.b.now c.in_err-check.ensures)

pub overflow_mul-y : goal.overflow_mul-y
overflow_mul-y c =
    omega (arith, product_small c.args.y.order c.args.columns (order_small c.args.y c.args.a.now c.in_ok-check.ensures) c.if-columns-gt1024.false)

pub returns-then-b-y : goal.returns-then-b-y
returns-then-b-y c =
    sides_wrong c.args.y c.args.columns c.if-columns-gt1024.false c.args.a.now c.args.b.now c.in_ok-check.ensures c.if-b-y.true

pub returns : goal.returns
returns c =
    sides_right c.args.y c.args.columns c.if-columns-gt1024.false c.args.a.now c.args.b.now c.in_ok-check.ensures c.if-b-y.false
