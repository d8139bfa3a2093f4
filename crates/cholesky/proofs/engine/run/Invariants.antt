-- `engine::run` meets its contract. Assumes nothing.
use Rattle.cholesky.specs.Floor.{floor_rule}
use Rattle.cholesky.proofs.Running.{Running}
use Rattle.cholesky.proofs.engine.run.Given as goal

abbrev pub invariant-loop-j : goal.invariant-loop-j
invariant-loop-j l = Running (floor_rule l.floor) l.y l.m l.initial.a l.j l.a l.used
