-- `subnormal_root` meets its contract.
use mathlib.Core.Path.{sym, ap, ◌∙◌, subst}
use Prim.Native.Nat.{ℕ, ◌+◌, ◌-◌, ◌*◌, ◌^◌}
use native.Mathlib.Omega.{arith}
use lib.Count.{count_leading_zeros}
use Rattle.leaf.specs.Root.{rounded}
use Rattle.leaf.specs.inner.Scaled.{Scaled}
use Rattle.leaf.proofs.Fields.{root_rounded, shifted, shift_exact, subnormal_scaled, subnormal_root}
use Rattle.leaf.proofs.subnormal_root.Goals as goal

pub overflow_sub-zeros : goal.overflow_sub-zeros
overflow_sub-zeros c = omega (arith, (shifted c.args.bits c.requires).zeros)

pub scaled_root-requires : goal.scaled_root-requires
scaled_root-requires c =
    subst (λ (m : ℕ). Scaled m (1022 - (count_leading_zeros 64 c.args.bits - 11))) (sym (shift_exact c.args.bits c.requires (shifted c.args.bits c.requires)))
    (subnormal_scaled c.args.bits c.requires (shifted c.args.bits c.requires))

pub returns : goal.returns
returns c =
    c.scaled_root.ensures
    ∙ ap (λ (m : ℕ). rounded (m * 2 ^ (1022 - (count_leading_zeros 64 c.args.bits - 11) + 52))) (shift_exact c.args.bits c.requires (shifted c.args.bits c.requires))
    ∙ root_rounded (subnormal_root c.args.bits c.requires (shifted c.args.bits c.requires))
