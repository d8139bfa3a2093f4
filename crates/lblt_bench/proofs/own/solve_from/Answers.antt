-- `solve_from` passes over a stretch that is another bench's, and solves one that is the bench's, or its first column.
use Rattle.std.proofs.Common.{refl}
use Rattle.lblt_bench.proofs.Stretches.{gone_other, gone_one, gone_own}
use Rattle.lblt_bench.proofs.own.solve_from.Goals as goal

pub returns-then-number-bench : goal.returns-then-number-bench
returns-then-number-bench c = gone_other _ _ c.args.j refl c.stretch_end-end.ensures.stretch c.if-number-bench.true refl

pub returns-then-end-j-lt4 : goal.returns-then-end-j-lt4
returns-then-end-j-lt4 c = gone_one _ _ c.args.j refl c.stretch_end-end.ensures.stretch c.if-number-bench.false c.solve_at.ensures

pub returns : goal.returns
returns c = gone_own _ _ c.args.j refl c.stretch_end-end.ensures.stretch c.if-number-bench.false c.solve_stretch.ensures
