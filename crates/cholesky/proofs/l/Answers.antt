-- `l` meets its contract. Assumes nothing.
use Rattle.std.proofs.Common.{arith, length}
use mathlib.Core.Path.{sym}
use Rattle.answer.proofs.Done.{handed_on}
use Rattle.matrix.proofs.Sizes.{passed_fits, laid_fits}
use Rattle.matrix.proofs.Places.{product_small}
use Rattle.cholesky.proofs.ReaderPromises.{copied_unfit, copied_short, copied_fit}
use Rattle.cholesky.proofs.l.Goals as goal

pub returns-in_err-check : goal.returns-in_err-check
returns-in_err-check c = rw (handed_on _ c.from_residual.ensures.1) (rw c.in_room-y.ensures at (copied_unfit c.in_err-check.ensures {l = c.args.l.now}))

pub overflow_mul-y : goal.overflow_mul-y
overflow_mul-y c =
    let roomy = (passed_fits c.in_room-y.result 0 (length c.args.a.now) (sym c.in_ok-check.ensures)).roomy in
    omega (arith, product_small c.in_room-y.result.order c.in_room-y.result.order (omega arith) (omega arith))

pub returns-then-l-y : goal.returns-then-l-y
returns-then-l-y c = rw c.in_room-y.ensures at (copied_short (passed_fits c.in_room-y.result 0 (length c.args.a.now) (sym c.in_ok-check.ensures)) c.if-l-y.true)

pub copy-requires-clause-laid : goal.copy-requires-clause-laid
copy-requires-clause-laid c = laid_fits (passed_fits c.in_room-y.result 0 (length c.args.a.now) (sym c.in_ok-check.ensures))

pub returns : goal.returns
returns c = rw c.in_room-y.ensures at (copied_fit (passed_fits c.in_room-y.result 0 (length c.args.a.now) (sym c.in_ok-check.ensures)) c.if-l-y.false c.copy.ensures)
