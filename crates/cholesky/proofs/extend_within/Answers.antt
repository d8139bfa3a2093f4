-- `extend_within` meets its contract. Assumes nothing.
use Rattle.std.proofs.Common.{length}
use mathlib.Core.Path.{sym}
use Rattle.matrix.proofs.Sizes.{passed_fits, laid_fits}
use Rattle.cholesky.proofs.FlooredPromises.{floored_unfit, floored_fit}
use Rattle.cholesky.proofs.extend_within.Goals as goal

pub returns-in-Err : goal.returns-in-Err
returns-in-Err c = floored_unfit c.in-Err.ensures

pub run-requires-clause-laid : goal.run-requires-clause-laid
run-requires-clause-laid c = laid_fits (passed_fits c.args.y c.args.earlier (length c.args.a.now) (sym c.in_default.ensures))

pub run-requires-clause-m_le_order : goal.run-requires-clause-m_le_order
run-requires-clause-m_le_order c = (passed_fits c.args.y c.args.earlier (length c.args.a.now) (sym c.in_default.ensures)).rising

pub returns : goal.returns
returns c = floored_fit (passed_fits c.args.y c.args.earlier (length c.args.a.now) (sym c.in_default.ensures)) c.run.ensures
