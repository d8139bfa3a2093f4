-- `unscale` meets its contract. Assumes nothing.
use mathlib.Core.Path.{◌≡◌, ◌∙◌, ap}
use Prim.Native.Nat.{ℕ, ◌+◌, ◌-◌, ◌<◌}
use lib.ListN.{take, drop, get_or}
use lib.Ieee.{Float, nan}
use native.Mathlib.Omega.{arith}
use Rattle.std.proofs.Common.{rules}
use Rattle.std.proofs.lemmas.List.{places}
use Rattle.matrix.specs.Rounded.{◌⊘◌}
use Rattle.strips.specs.inner.Strip.{ratio_of}
use Rattle.strips.proofs.Strips.{strip_part}
use Rattle.strips.proofs.unscale.Goals as goal

pub returns : goal.returns
unfolding ratio_of
returns c =
    strip_part c.args.a.now _ c.requires.lo_le_hi c.requires.at_in_bounds (let e = c.loop-x.auto in search (rules, places))
    (λ i from upto.
    let place : c.args.lo + c.args.at + (i - c.args.lo) ≡ i + c.args.at = omega arith in
    let given : get_or (take (c.args.hi + c.args.at - (c.args.lo + c.args.at)) (drop (c.args.lo + c.args.at) c.args.a.now)) (i - c.args.lo) nan ≡ get_or c.args.a.now (c.args.lo + c.args.at + (i - c.args.lo)) nan = search (rules, places) in
    let inside : i - c.args.lo < c.loop-x.x-index = let e = c.loop-x-test.false in search (rules, places) in
    c.loop-x.invariant.done (i - c.args.lo) inside ∙ ap (λ (x : Float). x ⊘ c.args.d) given ∙ ap (λ (k : ℕ). get_or c.args.a.now k nan ⊘ c.args.d) place)
