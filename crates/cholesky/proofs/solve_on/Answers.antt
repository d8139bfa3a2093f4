-- `solve_on` solves where its checks admit it, and leaves all as it was where they do not.
use Rattle.std.proofs.Common.{arith, length}
use mathlib.Core.Path.{sym}
use Rattle.answer.proofs.Done.{handed_on}
use Rattle.matrix.proofs.Places.{product_small}
use Rattle.matrix.proofs.Sizes.{passed_fits, laid_fits}
use Rattle.cholesky.proofs.SolvePromises.{solved_wide, solved_unfit, solved_short, solved_fit}
use Rattle.cholesky.proofs.solve_on.Goals as goal

pub returns-then-columns-gt1024 : goal.returns-then-columns-gt1024
returns-then-columns-gt1024 c = solved_wide c.if-columns-gt1024.true

pub returns-in_err-check : goal.returns-in_err-check
returns-in_err-check c = rw (handed_on _ c.from_residual.ensures.1) (solved_unfit c.if-columns-gt1024.false c.in_err-check.ensures)

pub overflow_mul-y : goal.overflow_mul-y
overflow_mul-y c =
    let roomy = (passed_fits c.args.y 0 (length c.args.a.now) (sym c.in_ok-check.ensures)).roomy in
    omega (arith, product_small c.args.y.order c.args.columns (omega arith) c.if-columns-gt1024.false)

pub returns-then-b-y : goal.returns-then-b-y
returns-then-b-y c = solved_short c.if-columns-gt1024.false (passed_fits c.args.y 0 (length c.args.a.now) (sym c.in_ok-check.ensures)) c.if-b-y.true

pub solve_sides-requires-clause-laid : goal.solve_sides-requires-clause-laid
solve_sides-requires-clause-laid c = laid_fits (passed_fits c.args.y 0 (length c.args.a.now) (sym c.in_ok-check.ensures))

pub returns : goal.returns
returns c = solved_fit c.if-columns-gt1024.false (passed_fits c.args.y 0 (length c.args.a.now) (sym c.in_ok-check.ensures)) c.if-b-y.false c.solve_sides.ensures
