-- `solve_lower` goes forward two rows at a time, and then takes the row that is left.
use Rattle.std.specs.Prelude.{◌≡◌, ◌+◌, ◌-◌, ◌*◌}
use Rattle.std.proofs.Common.{arith}
use Rattle.matrix.proofs.Turning.{turning_none, turning_on}
use Rattle.cholesky_solve.proofs.Forward.{lowered, lowered_last}
use Rattle.cholesky_solve.proofs.solve_lower.Goals as goal

pub loop-pair-init : goal.loop-pair-init
loop-pair-init g c = turning_none (omega arith)

pub loop-pair-preserved : goal.loop-pair-preserved
loop-pair-preserved g c =
    let next : 2 * (c.loop-pair.pair + 1) ≡ 2 * c.loop-pair.pair + 2 = omega arith in
    rw next (turning_on c.loop-pair.invariant 2 (omega arith) c.lower_two.ensures c.lower_two.auto.b)

pub returns-then-n-eq1 : goal.returns-then-n-eq1
returns-then-n-eq1 g c =
    let last : c.args.y.order - 1 ≡ 2 * c.loop-pair.pair = omega arith in
    lowered_last _ _ _ _ c.requires.long c.loop-pair.invariant (omega arith) (omega arith) (rw last at c.divide_one.ensures) c.divide_one.auto.b

pub returns-else-n-eq1 : goal.returns-else-n-eq1
returns-else-n-eq1 g c = lowered _ _ _ _ c.requires.long c.loop-pair.invariant (omega arith)
