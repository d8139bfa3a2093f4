-- `scaled_root` meets its contract.
use mathlib.Core.Path.{sym, subst}
use Prim.Native.Nat.{ℕ, ◌*◌, ◌^◌, ◌<◌}
use native.Mathlib.Nat.{mul-le-mul_right}
use native.Mathlib.Omega.{arith}
use lib.Pow.{shl_lt}
use Rattle.leaf.specs.inner.Cut.{CutRoot}
use Rattle.leaf.proofs.Rounded.{long, even_least, even_most, rounded_cut}
use Rattle.leaf.proofs.Nan.{no_nan_bits}
use Rattle.leaf.proofs.scaled_root.Goals as goal

pub root-s-requires : goal.root-s-requires
root-s-requires c = subst (λ (n : ℕ). n < 2 ^ 54) (sym c.evened.ensures) (even_most c.args.m c.args.at c.requires)

pub float_from_bits-result : goal.float_from_bits-result
float_from_bits-result c = no_nan_bits _ (omega (arith, (long _ _ (mul-le-mul_right (2 ^ 54) (even_least c.args.m c.args.at c.requires)) (shl_lt 54 54 (even_most c.args.m c.args.at c.requires)) (subst (λ (n : ℕ). CutRoot (n * 2 ^ 54) c.root-s.result) c.evened.ensures c.root-s.ensures)).most, c.requires.highest))

pub returns : goal.returns
returns c = sym (rounded_cut c.args.m c.args.at c.requires c.root-s.result (subst (λ (n : ℕ). CutRoot (n * 2 ^ 54) c.root-s.result) c.evened.ensures c.root-s.ensures))
