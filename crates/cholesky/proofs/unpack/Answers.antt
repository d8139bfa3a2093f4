-- `unpack` meets its contract. Assumes nothing.
use Rattle.std.proofs.Common.{length}
use mathlib.Core.Path.{sym}
use Rattle.matrix.proofs.Sizes.{passed_fits, laid_fits}
use Rattle.cholesky.proofs.unpack.Goals as goal

pub clear_above-requires-clause-laid : goal.clear_above-requires-clause-laid
clear_above-requires-clause-laid c = laid_fits (passed_fits c.in_room-y.result 0 (length c.args.a.now) (sym c.in_ok-check.ensures))
