-- `cholesky` meets its contract. Assumes nothing.
use Rattle.std.proofs.Common.{◌≡◌, arith, ap, length}
use mathlib.Core.Path.{sym}
use Rattle.answer.proofs.Done.{handed_on}
use Rattle.matrix.specs.declared.Layout.{Layout}
use Rattle.matrix.proofs.Sizes.{passed_fits, laid_fits}
use Rattle.teaching.proofs.Promises.{taught_large, taught_unfit, taught_fit}
use Rattle.teaching.proofs.cholesky.Goals as goal

pub returns-then-n-gt64 : goal.returns-then-n-gt64
returns-then-n-gt64 c = taught_large c.args.room c.args.n (omega arith)

pub returns-in_err-check : goal.returns-in_err-check
returns-in_err-check c = rw (handed_on _ c.from_residual.ensures.1) (taught_unfit c.args.room c.args.n c.in_room-y.ensures (omega arith) c.in_err-check.ensures)

pub of_order-requires-clause-laid : goal.of_order-requires-clause-laid
of_order-requires-clause-laid c = laid_fits (passed_fits c.in_room-y.result 0 (length c.args.a.now) (sym c.in_ok-check.ensures))

pub of_order-requires-clause-n_le_order : goal.of_order-requires-clause-n_le_order
of_order-requires-clause-n_le_order c = let order : c.in_room-y.result.order ≡ c.args.n = ap (λ (y : Layout). y.order) c.in_room-y.ensures in omega arith

pub returns : goal.returns
returns c = taught_fit c.args.room c.args.n c.in_room-y.ensures (omega arith) (passed_fits c.in_room-y.result 0 (length c.args.a.now) (sym c.in_ok-check.ensures)) c.of_order.ensures
