-- `Layout::offset` meets its contract: the product of two numbers up to 2,048 fits, and what is left out is no more than two columns. Assumes nothing.
use mathlib.Core.Bool.{Bool, true, false, cond}
use mathlib.Core.Path.{ap, ◌∙◌}
use Prim.Native.Nat.{ℕ, ◌+◌, ◌-◌, ◌*◌, ◌/◌, ◌≤◌, ◌<◌}
use native.Mathlib.Nat.{mul-le-mul}
use native.Mathlib.Omega.{arith}
use Rattle.matrix.specs.declared.Layout.{Layout}
use Rattle.matrix.specs.inner.Starts.{left_out}
use Rattle.matrix.proofs.Triangles.{start_halved}
use Rattle.matrix.proofs.Layout.offset.Goals as goal

-- no more than two columns
left-out-fits : (y : Layout) (j : ℕ) → j < y.room → left_out y j ≤ 2 * y.room
unfolding left_out
left-out-fits y j below = by y.packed
  where
    by : (b : Bool) → cond b (j + 1) 0 ≤ 2 * y.room
    by true = omega arith
    by false = omega arith

pub left_out-requires : goal.left_out-requires
left_out-requires c = omega (arith, c.requires)

pub overflow_sub-result : goal.overflow_sub-result
overflow_sub-result c = omega (arith, c.left_out.ensures, left-out-fits c.args.self c.args.j (omega (arith, c.requires)))

pub overflow_mul-result-2 : goal.overflow_mul-result-2
overflow_mul-result-2 c =
    let j = c.args.j in
    let room = c.args.self.room in
    let out = c.left_out.result in
    let small : j * (2 * room - out) ≤ 1024 * 2048 = mul-le-mul {n₁ = j} {m₁ = 2 * room - out} {n₂ = 1024} {m₂ = 2048} (omega (arith, c.requires)) (omega (arith, c.requires)) in
    omega arith

pub returns : goal.returns
returns c =
    ap (λ (out : ℕ). c.args.j * (2 * c.args.self.room - out) / 2) c.left_out.ensures ∙ start_halved c.args.self c.args.j (omega (arith, c.requires))
