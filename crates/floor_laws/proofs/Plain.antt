-- When a call with a floor is the call without one. Assumes nothing.
--     failing_floor   the floor fails its test
--     plain_accepts   the call without a floor is accepted, whatever the floor
--     unused_plain    no column used the floor
--     refused_plain   the call is refused
--     passing_floor   a floor that passes leaves refusals by size alone
--     nan_noticed     a NaN in a row of the batch is refused or counted
use mathlib.Core.Path.{◌≡◌, refl, sym, ◌∙◌, ap, subst}
use mathlib.Core.Bool.{Bool, true, false, true≢false}
use mathlib.Core.List.{List}
use Prim.Native.Nat.{ℕ, ◌≤◌, ◌<◌}
use lib.ListN.{length}
use lib.Ieee.{Float, nan}
use Rattle.answer.specs.Answer.{Answer, Done, is_done}
use Rattle.answer.specs.Refusals.{tested}
use Rattle.answer.proofs.Done.{done_or_refused}
use Rattle.answer.proofs.Tested.{tested_fixed, leaving_refused}
use Rattle.matrix.specs.declared.Layout.{Layout}
use Rattle.matrix.specs.Matrix.{Matrix}
use Rattle.matrix.specs.Grid.{load}
use Rattle.matrix.specs.Layouts.{lower}
use Rattle.matrix.specs.Sizes.{size_tests, sizes_of, Fits}
use Rattle.matrix.proofs.Sizes.{done_fits}
use Rattle.cholesky.specs.declared.Floored.{Floored}
use Rattle.cholesky.specs.Run.{Rule, Outcome, started, factor_columns}
use Rattle.cholesky.specs.Crate.{crate_rule}
use Rattle.cholesky.specs.Floor.{passes, floor_rule}
use Rattle.cholesky.specs.Used.{used_by}
use Rattle.cholesky.specs.Leaves.{Leaves}
use Rattle.cholesky.specs.Promise.{batch, batch_by, Extended}
use Rattle.cholesky.specs.Floored.{ExtendedFloored}
use Rattle.cholesky.proofs.Floor.{plain_rule, floor_passes}
use Rattle.cholesky.proofs.Promises.{extended_answer}
use Rattle.cholesky.proofs.FlooredPromises.{used_fit, used_unfit, floored_plain}
use Rattle.cholesky.proofs.Refusals.{Answered, done, refused, columns_answered}
use Rattle.cholesky.proofs.Nan.{nan_told}
use Rattle.floor_laws.specs.Plain.{AsPlain}
use Rattle.floor_laws.proofs.Columns.{crate_unused, columns_unused, columns_accepted}

module _ {s : Float} {y : Layout} {m : ℕ} {l₀ l : List Float} {r : Floored} (call : ExtendedFloored s y m l₀ l r) where
  abbrev A : Matrix
  A = load (lower y) l₀

  pub failing_floor : passes s ≡ false → AsPlain y m l₀ l r
  failing_floor fails = record {
    extended = floored_plain fails call;
    unused =
        call.used
        ∙ done_or_refused (sizes_of y m l₀)
        (λ fit. used_fit s y m l₀ (done_fits y m (length l₀) Done fit) ∙ ap (λ (ρ : Rule). used_by ρ m y.order A) (plain_rule s fails) ∙ crate_unused m y.order A)
        (used_unfit s y m l₀);
  }

  -- the same columns by the crate's own rule
  as_columns : factor_columns (floor_rule s) m y.order A ≡ factor_columns crate_rule m y.order A → Extended y m l₀ l r.answer
  as_columns same = record {
    answer = call.extended.answer ∙ ap (λ (o : Outcome). tested (size_tests y m (length l₀)) o.answer) same;
    left = record {
      done = λ fit. subst (λ (o : Outcome). Leaves y l₀ l o.cells) same (call.extended.left.done fit);
      refused = call.extended.left.refused;
    };
  }

  -- refused by size: the rule does not matter
  as_refused : is_done (sizes_of y m l₀) ≡ false → AsPlain y m l₀ l r
  as_refused unfit = record {
    extended = record {
      answer = call.extended.answer ∙ tested_fixed (size_tests y m (length l₀)) _ unfit ∙ sym (tested_fixed (size_tests y m (length l₀)) _ unfit);
      left = leaving_refused unfit (call.extended.left.refused unfit);
    };
    unused = call.used ∙ used_unfit s y m l₀ unfit;
  }

  pub plain_accepts : {l' : List Float} {p : Answer} → Extended y m l₀ l' p → is_done p ≡ true → AsPlain y m l₀ l r
  unfolding factor_columns
  plain_accepts {p = p} plain accepted =
      let fit = done_fits y m (length l₀) (batch y m l₀).answer (ap is_done (sym plain.answer) ∙ accepted) in
      let both = columns_accepted s m A y.order (ap is_done (sym (extended_answer plain fit)) ∙ accepted) in
      record { extended = as_columns both.0; unused = call.used ∙ used_fit s y m l₀ fit ∙ both.1 }

  pub unused_plain : r.used ≡ 0 → AsPlain y m l₀ l r
  unfolding factor_columns
  unused_plain none =
      done_or_refused (sizes_of y m l₀)
      (λ fit. record { extended = as_columns (columns_unused s m A y.order (sym (used_fit s y m l₀ (done_fits y m (length l₀) Done fit)) ∙ sym call.used ∙ none)); unused = none })
      as_refused

  -- the floor passes: the columns are all accepted
  all_pass : passes s ≡ true → (batch_by (floor_rule s) y m l₀).answer ≡ Done
  unfolding factor_columns
  all_pass floor = by (columns_answered (floor_rule s) m 0 y.order 0 (λ j low from. low) (started A) refl)
    where
      by : {a : Answer} → Answered (floor_rule s) 0 y.order a → a ≡ Done
      by (done is) = is
      by (refused d j from upto turned is) = absurd (true≢false (sym (floor_passes s floor d j) ∙ turned))

  pub passing_floor : passes s ≡ true → r.answer ≡ sizes_of y m l₀
  passing_floor floor = call.extended.answer ∙ ap (tested (size_tests y m (length l₀))) (all_pass floor)

  pub refused_plain : is_done r.answer ≡ false → AsPlain y m l₀ l r
  refused_plain failed =
      by (passes s) refl
    where
      by : (b : Bool) → passes s ≡ b → AsPlain y m l₀ l r
      by true floor = as_refused (ap is_done (sym (passing_floor floor)) ∙ failed)
      by false floor = failing_floor floor

  pub nan_noticed : Fits y m (length l₀) → (i k : ℕ) → m ≤ i → i < y.order → k ≤ i → A i k ≡ nan → is_done r.answer ≡ true → r.used ≡ 0 → ⊥
  nan_noticed fits i k late within left broken accepted none =
      true≢false (sym accepted ∙ (nan_told fits (unused_plain none).extended i k late within left broken).refused)
