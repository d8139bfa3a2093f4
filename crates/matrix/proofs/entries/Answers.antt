-- `entries` meets its contract: the product of two numbers up to 1,025 fits. Assumes nothing.
use Prim.Native.Nat.{◌+◌, ◌*◌, ◌≤◌}
use native.Mathlib.Nat.{mul-le-mul}
use native.Mathlib.Omega.{arith}
use borrow.Author.Rules.{rules}
use Rattle.matrix.specs.Layouts.{entries_of}
use Rattle.matrix.proofs.entries.Goals as goal

pub overflow_mul-result : goal.overflow_mul-result
overflow_mul-result c =
    let n = c.args.n in
    let small : n * (n + 1) ≤ 1024 * 1025 = mul-le-mul {n₁ = n} {m₁ = n + 1} {n₂ = 1024} {m₂ = 1025} (omega arith) (omega arith) in
    omega arith

pub returns : goal.returns
unfolding entries_of
returns c = search rules
