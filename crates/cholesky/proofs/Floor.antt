-- The rule with a floor. Assumes nothing.
--     standing_own, standing_floor  a diagonal that passes is judged itself; one that fails gives way to a floor that passes
--     standing_plain, plain_rule    a floor that fails stands in for nothing, so that the rule is the crate's own
--     floor_passes                  a floor that passes: every diagonal does
--     floor_place                   a refusal names its column
use mathlib.Core.Path.{◌≡◌, refl, ap, ap₂, fun_ext, ◌∙◌}
use mathlib.Core.Bool.{true, false}
use Prim.Native.Nat.{ℕ}
use lib.Ieee.{Float}
use Rattle.answer.specs.Answer.{Answer, is_done}
use Rattle.answer.specs.Number.{place_of}
use Rattle.answer.proofs.Tests.{either}
use Rattle.leaf.specs.Root.{root_of}
use Rattle.cholesky.specs.Crate.{answer_to, crate_rule}
use Rattle.cholesky.specs.Floor.{passes, standing, floor_rule}
use Rattle.cholesky.proofs.Diagonal.{answer_passes, answer_place}

module _ (s d : Float) where
  pub standing_own : passes d ≡ true → standing s d ≡ d
  unfolding standing
  standing_own own = rw own

  pub standing_floor : passes d ≡ false → passes s ≡ true → standing s d ≡ s
  unfolding standing
  standing_floor own floor = rw (own, floor)

  pub standing_plain : passes s ≡ false → standing s d ≡ d
  unfolding standing
  standing_plain floor = rw floor (either (λ (x : Float). x ≡ d) (passes d) (λ own. refl) (λ own. refl))

pub plain_rule : (s : Float) → passes s ≡ false → floor_rule s ≡ crate_rule
plain_rule s floor =
    ap₂ (λ (v : Float → ℕ → Answer) (r : Float → Float). record { verdict = v; root = r })
    (fun_ext (λ d. ap answer_to (standing_plain s d floor)))
    (fun_ext (λ d. ap root_of (standing_plain s d floor)))

pub floor_passes : (s : Float) → passes s ≡ true → (d : Float) (j : ℕ) → is_done ((floor_rule s).verdict d j) ≡ true
unfolding standing
floor_passes s floor d j = answer_passes (standing s d) j ∙ rw floor (either (λ (x : Float). passes x ≡ true) (passes d) (λ own. own) (λ own. floor))

pub floor_place : (s d : Float) (j : ℕ) → is_done ((floor_rule s).verdict d j) ≡ false → place_of ((floor_rule s).verdict d j) ≡ j
floor_place s d j = answer_place (standing s d) j
