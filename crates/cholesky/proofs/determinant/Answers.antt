-- `determinant` meets its contract. Assumes nothing.
use Rattle.std.proofs.Common.{length}
use mathlib.Core.Path.{sym}
use Rattle.answer.proofs.Done.{handed_on}
use Rattle.matrix.proofs.Sizes.{passed_fits, laid_fits}
use Rattle.cholesky.proofs.ReaderPromises.{determined_unfit, determined_fit}
use Rattle.cholesky.proofs.determinant.Goals as goal

pub returns-in_err-check : goal.returns-in_err-check
returns-in_err-check c = rw (handed_on _ c.from_residual.ensures.1) (rw c.in_room-y.ensures at (determined_unfit c.in_err-check.ensures))

pub diagonal-product-requires : goal.diagonal-product-requires
diagonal-product-requires c = laid_fits (passed_fits c.in_room-y.result 0 (length c.args.a.now) (sym c.in_ok-check.ensures))

pub returns : goal.returns
returns c = rw c.in_room-y.ensures at (determined_fit (passed_fits c.in_room-y.result 0 (length c.args.a.now) (sym c.in_ok-check.ensures)) c.diagonal-product.ensures)
