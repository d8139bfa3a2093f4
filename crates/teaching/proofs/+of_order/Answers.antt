-- `of_order` meets its contract; it calls itself, and its measure is the order. Assumes nothing.
use Rattle.answer.proofs.Done.{handed_on}
use Rattle.cholesky.specs.Crate.{crate_rule}
use Rattle.teaching.proofs.Working.{order_none, order_refused, order_more}
use Rattle.teaching.proofs.+of_order.Goals as goal

pub returns-then-n-eq0 : goal.returns-then-n-eq0
returns-then-n-eq0 t c = order_none crate_rule c.args.n c.requires.laid.sound c.if-n-eq0.true

pub returns-in_err-of_order : goal.returns-in_err-of_order
returns-in_err-of_order t c = rw (handed_on _ c.from_residual.ensures.1) (order_refused crate_rule c.args.n c.if-n-eq0.false c.in_err-of_order.ensures)

pub returns : goal.returns
returns t c = order_more crate_rule c.args.n c.if-n-eq0.false c.in_ok-of_order.ensures c.last_row.ensures
