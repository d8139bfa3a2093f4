-- Columns after columns. Assumes nothing.
--     column_later     from m on, a column does not see where its batch begins
--     columns_on       the first c columns, and then those up to n
--     column_stays, refusal_stays  nothing is done after a refusal
--     refusal_answers  a refusal in the first c columns is what all n give
--     accepted_before  the columns before accepted ones are accepted
--     column_judged, judges  column j from m on is judged, if all before it passed
use mathlib.Core.Path.{◌≡◌, refl, sym, ◌∙◌, ap}
use mathlib.Core.Bool.{true, false}
use Prim.Native.Nat.{ℕ, ◌+◌, ◌≤◌}
use native.Mathlib.Omega.{arith}
use borrow.Author.Tests.{le-ltb}
use Rattle.answer.specs.Answer.{is_done}
use Rattle.answer.proofs.Done.{done_or_refused}
use Rattle.matrix.specs.Matrix.{Matrix}
use Rattle.matrix.specs.Loop.{for}
use Rattle.matrix.proofs.Loops.{for_more, for_join, for_keeps}
use Rattle.cholesky.specs.Run.{Rule, Outcome, updates, judged_column, worked, factor_column, started, factor_columns}

module _ (ρ : Rule) (m : ℕ) where
  pub column_later : (j : ℕ) (o : Outcome) → m ≤ j → factor_column ρ m j o ≡ factor_column ρ 0 j o
  unfolding factor_column worked
  column_later j o from = rw (le-ltb j m from, le-ltb j 0 (omega arith))

  pub column_judged : (j : ℕ) (o : Outcome) → m ≤ j → is_done o.answer ≡ true → factor_column ρ m j o ≡ judged_column ρ j (updates j j o.cells)
  unfolding factor_column worked
  column_judged j o late passed = rw (passed, le-ltb j m late)

  pub column_stays : (j : ℕ) (o : Outcome) → is_done o.answer ≡ false → factor_column ρ m j o ≡ o
  unfolding factor_column
  column_stays j o refused = rw refused

  pub refusal_stays : (lo hi : ℕ) (o : Outcome) → is_done o.answer ≡ false → for lo hi (factor_column ρ m) o ≡ o
  refusal_stays lo hi o refused =
      for_keeps (λ (p : Outcome). p ≡ o) lo hi (factor_column ρ m) o refl (λ j p from upto e. ap (factor_column ρ m j) e ∙ column_stays j o refused)

  module _ (A : Matrix) where
    pub columns_on : (c n : ℕ) → c ≤ n → for c n (factor_column ρ m) (factor_columns ρ m c A) ≡ factor_columns ρ m n A
    unfolding factor_columns
    columns_on c n upto = for_join 0 c n (factor_column ρ m) (started A) (omega arith) upto

    pub refusal_answers : (c n : ℕ) → c ≤ n → is_done (factor_columns ρ m c A).answer ≡ false → factor_columns ρ m c A ≡ factor_columns ρ m n A
    refusal_answers c n upto refused = sym (refusal_stays c n (factor_columns ρ m c A) refused) ∙ columns_on c n upto

    pub accepted_before : (c n : ℕ) → c ≤ n → is_done (factor_columns ρ m n A).answer ≡ true → is_done (factor_columns ρ m c A).answer ≡ true
    accepted_before c n upto passed = done_or_refused (factor_columns ρ m c A).answer (λ e. e) (λ refused. ap (λ (o : Outcome). is_done o.answer) (refusal_answers c n upto refused) ∙ passed)

    pub judges : (j : ℕ) → m ≤ j → is_done (factor_columns ρ m j A).answer ≡ true → factor_columns ρ m (j + 1) A ≡ judged_column ρ j (updates j j (factor_columns ρ m j A).cells)
    unfolding factor_columns
    judges j late passed = for_more 0 j (factor_column ρ m) (started A) (omega arith) ∙ column_judged j (factor_columns ρ m j A) late passed
