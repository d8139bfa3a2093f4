-- `solve_transposed` goes back from the last row.
use Rattle.std.specs.Prelude.{◌≡◌, ◌+◌, ◌-◌}
use Rattle.std.proofs.Common.{arith, ap, ◌∙◌}
use Rattle.matrix.specs.Columns.{at, column}
use Rattle.matrix.proofs.Loops.{fell_none, fell_more, fell_all}
use Rattle.cholesky_solve.proofs.Back.{back_none, back_all}
use Rattle.cholesky_solve.proofs.solve_transposed.Goals as goal

pub returns-then-n-eq0 : goal.returns-then-n-eq0
returns-then-n-eq0 g c = back_none _ _ _ _ c.requires.long c.if-n-eq0.true

pub loop-i-init : goal.loop-i-init
loop-i-init g c = (fell_none, c.of-last.ensures)

pub transposed_row-last-requires-clause-last_value : goal.transposed_row-last-requires-clause-last_value
transposed_row-last-requires-clause-last_value g c j below =
    let same : c.loop-i.i ≡ c.loop-i.i - 1 + 1 = omega (arith, c.loop-i-test.true) in
    c.loop-i.invariant.1 j below ∙ ap (at (column c.args.y.order j c.loop-i.b)) same

pub loop-i-preserved : goal.loop-i-preserved
loop-i-preserved g c =
    (fell_more c.loop-i.invariant.0 c.loop-i-test.true c.transposed_row-last.ensures.columns, c.transposed_row-last.ensures.row)

pub returns : goal.returns
returns g c =
    back_all _ _ _ _ c.requires.long (omega (arith, c.if-n-eq0.false)) c.divide_one.ensures (fell_all c.loop-i.invariant.0 c.loop-i-test.false)
