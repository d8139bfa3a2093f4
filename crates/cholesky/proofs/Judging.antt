-- The judgement of a diagonal by the rule with a floor. Assumes nothing.
--     judge_own      the diagonal passes
--     judge_floor    it fails, and the floor passes
--     judge_refused  both fail
use Rattle.std.specs.Prelude.{Ok, Err}
use mathlib.Core.Path.{◌≡◌, sym, ◌∙◌, ap}
use mathlib.Core.Bool.{true, false}
use Prim.Native.Nat.{ℕ}
use lib.Ieee.{Float}
use Rattle.answer.specs.declared.Refusal.{Refusal}
use Rattle.answer.specs.Answer.{Done, is_done}
use Rattle.leaf.specs.Root.{root_of}
use Rattle.cholesky.specs.Crate.{answer_to}
use Rattle.cholesky.specs.Floor.{passes, floor_rule}
use Rattle.cholesky.specs.inner.Engine.{Judgement}
use Rattle.cholesky.proofs.Diagonal.{answer_passes}
use Rattle.cholesky.proofs.Floor.{standing_own, standing_floor, standing_plain}

passing_done : (x : Float) (j : ℕ) → passes x ≡ true → answer_to x j ≡ Done
unfolding answer_to
passing_done x j passed = rw passed

module _ (s d : Float) (j : ℕ) where
  pub judge_own : {x : Float} → Done ≡ answer_to d j → x ≡ root_of d → Judgement (floor_rule s) d j (Ok (record { root = x; used = 0 }))
  judge_own passed root =
      let own : passes d ≡ true = sym (answer_passes d j) ∙ ap is_done (sym passed) in
      record { answer = passed ∙ ap (λ (x : Float). answer_to x j) (sym (standing_own s d own)); root = root ∙ ap root_of (sym (standing_own s d own)); used = rw own }

  module _ {fault : Refusal} (failed : Err fault ≡ answer_to d j) where
    own : passes d ≡ false
    own = sym (answer_passes d j) ∙ ap is_done (sym failed)

    pub judge_floor : {x : Float} → passes s ≡ true → x ≡ root_of s → Judgement (floor_rule s) d j (Ok (record { root = x; used = 1 }))
    judge_floor floor root = record {
      answer = sym (passing_done s j floor) ∙ ap (λ (x : Float). answer_to x j) (sym (standing_floor s d own floor));
      root = root ∙ ap root_of (sym (standing_floor s d own floor));
      used = rw own;
    }

    pub judge_refused : passes s ≡ false → Judgement (floor_rule s) d j (Err fault)
    judge_refused floor = record { answer = failed ∙ ap (λ (x : Float). answer_to x j) (sym (standing_plain s d floor)); root = tt; used = tt }
