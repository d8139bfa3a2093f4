-- A NaN in a row of a batch, on its diagonal or left of it, is never accepted by the crate's own rule: it is refused by 11, if no earlier row of the batch is refused. Assumes nothing.
use Rattle.std.specs.Prelude.{Err}
use mathlib.Core.Path.{◌≡◌, refl, sym, ◌∙◌, ap, subst}
use mathlib.Core.Bool.{true, false}
use mathlib.Core.List.{List}
use mathlib.Core.Logic.{◌⊎◌, inl, inr}
use Prim.Native.Nat.{ℕ, ◌+◌, ◌≤◌, ◌<◌}
use native.Mathlib.Omega.{arith}
use lib.Dec.{ltb}
use lib.ListN.{length}
use lib.Ieee.{Float, nan, inf, fin, add, mul, div, neg}
use Rattle.answer.specs.declared.Refusal.TheVariants.{CholeskyNan}
use Rattle.answer.specs.Answer.{Answer, is_done}
use Rattle.answer.specs.Number.{place_of}
use Rattle.answer.proofs.Done.{done_or_refused}
use Rattle.answer.proofs.Tests.{either, eq_or_ne}
use Rattle.matrix.specs.declared.Layout.{Layout}
use Rattle.matrix.specs.Matrix.{Matrix, entry}
use Rattle.matrix.specs.Loop.{for}
use Rattle.matrix.specs.Grid.{load}
use Rattle.matrix.specs.Layouts.{lower}
use Rattle.matrix.specs.Rounded.{◌⊕◌, ◌⊗◌, ◌⊘◌}
use Rattle.matrix.specs.Sizes.{Fits}
use Rattle.matrix.proofs.Loops.{for_keeps, for_more, for_join}
use Rattle.matrix.proofs.Stores.{entry_row}
use Rattle.cholesky.specs.Column.{less, updated}
use Rattle.cholesky.specs.Run.{Rule, Outcome, updates, below, continued, judged_column, worked, factor_column, started, factor_columns}
use Rattle.cholesky.specs.Crate.{answer_to, crate_rule}
use Rattle.cholesky.specs.Diagonal.{due_to}
use Rattle.cholesky.specs.Promise.{Extended}
use Rattle.cholesky.specs.Nan.{NanTold}
use Rattle.cholesky.proofs.Diagonal.{answer_is}
use Rattle.cholesky.proofs.Onward.{refusal_answers, judges}
use Rattle.cholesky.proofs.Rows.{updates_in, below_in, worked_off, judged_answer}
use Rattle.cholesky.proofs.Promises.{extended_answer}
use Rattle.cholesky.proofs.Refusals.{columns_answered, crate_names, refused_in}

-- ---- NaN in sums

plus_nan : (x : Float) → x ⊕ nan ≡ nan
unfolding add
plus_nan nan = refl
plus_nan (inf s) = refl
plus_nan (fin s m e) = refl

-- nothing brings a NaN back
nan_stays : (M : Matrix) (i j lo hi : ℕ) {x : Float} → x ≡ nan → for lo hi (less M i j) x ≡ nan
unfolding less add
nan_stays M i j lo hi {x} e = for_keeps (λ (x : Float). x ≡ nan) lo hi (less M i j) x e (λ k x from upto is. ap (λ (x : Float). x ⊕ neg (M j k) ⊗ M i k) is)

module _ (M : Matrix) (i k : ℕ) (e : M i k ≡ nan) where
  -- a NaN in column k stays one
  updated_nan : updated M k k i ≡ nan
  unfolding updated
  updated_nan = nan_stays M i k 0 k e

  -- and makes the row's diagonal one
  diagonal_nan : k ≤ i → updated M i i i ≡ nan
  unfolding updated less neg mul
  diagonal_nan upto = by (eq_or_ne k i)
    where
      taken : for 0 (k + 1) (less M i i) (M i i) ≡ nan
      taken = for_more 0 k (less M i i) (M i i) (omega arith) ∙ ap (λ (y : Float). for 0 k (less M i i) (M i i) ⊕ neg y ⊗ y) e ∙ plus_nan (for 0 k (less M i i) (M i i))

      by : (k ≡ i) ⊎ (k ≡ i → ⊥) → for 0 i (less M i i) (M i i) ≡ nan
      by (inl is) = nan_stays M i i 0 i (ap (M i) (sym is) ∙ e)
      by (inr other) = sym (for_join 0 (k + 1) i (less M i i) (M i i) (omega arith) (omega arith)) ∙ nan_stays M i i (k + 1) i taken

divided_nan : (M : Matrix) (r i j : ℕ) → r ≤ i → M i j ≡ nan → below r j M i j ≡ nan
unfolding div
divided_nan M r i j from e = below_in r j M i from ∙ ap (λ (x : Float). x ⊘ M j j) e

-- ---- columns before the row's own

module _ (ρ : Rule) (m i k : ℕ) (late : m ≤ i) where
  own_column : (M : Matrix) → k < i → M i k ≡ nan → (worked ρ m k M).cells i k ≡ nan
  unfolding worked continued judged_column
  own_column M left e =
      either (λ (o : Outcome). o.cells i k ≡ nan) (ltb k m)
      (λ early. divided_nan (updates m k M) m i k late (updates_in m k M i late ∙ updated_nan M i k e))
      (λ judged.
      let U = updates k k M in
      let here : U i k ≡ nan = updates_in k k M i (omega arith) ∙ updated_nan M i k e in
      either (λ (o : Outcome). o.cells i k ≡ nan) (is_done (ρ.verdict (U k k) k))
      (λ passed. divided_nan (entry U k k (ρ.root (U k k))) (k + 1) i k (omega arith) (entry_row U k k (ρ.root (U k k)) i k (λ same. omega arith) ∙ here))
      (λ failed. here))

  column_nan : (j : ℕ) (M : Matrix) → j < i → M i k ≡ nan → (worked ρ m j M).cells i k ≡ nan
  column_nan j M left e = by (eq_or_ne k j)
    where
      by : (k ≡ j) ⊎ (k ≡ j → ⊥) → (worked ρ m j M).cells i k ≡ nan
      by (inl is) = subst (λ (c : ℕ). (worked ρ m c M).cells i k ≡ nan) is (own_column M (omega arith) e)
      by (inr other) = worked_off ρ i k m j M (inr other) ∙ e

  -- after the columns before i
  columns_nan : (A : Matrix) → A i k ≡ nan → (factor_columns ρ m i A).cells i k ≡ nan
  unfolding factor_columns factor_column
  columns_nan A e =
      for_keeps (λ (o : Outcome). o.cells i k ≡ nan) 0 i (factor_column ρ m) (started A) e
      (λ j o from upto is. either (λ (p : Outcome). p.cells i k ≡ nan) (is_done o.answer) (λ go. column_nan j o.cells upto is) (λ stop. is))

-- ---- the call

module _ {y : Layout} {m : ℕ} {l l' : List Float} {r : Answer} (fits : Fits y m (length l)) (call : Extended y m l l' r)
    (i k : ℕ)
    (late : m ≤ i)
    (within : i < y.order)
    (left : k ≤ i)
    (broken : load (lower y) l i k ≡ nan) where
  abbrev A : Matrix
  A = load (lower y) l

  -- what the columns before i give, and what those up to i give
  abbrev before : Outcome
  before = factor_columns crate_rule m i A

  abbrev with_row : Outcome
  with_row = factor_columns crate_rule m (i + 1) A

  -- row i is judged
  judged : is_done before.answer ≡ true → with_row.answer ≡ Err (CholeskyNan i)
  unfolding due_to
  judged passed =
      ap (λ (o : Outcome). o.answer) (judges crate_rule m A i late passed)
      ∙ judged_answer crate_rule i (updates i i before.cells)
      ∙ ap (λ (x : Float). answer_to x i) (updates_in i i before.cells i (omega arith) ∙ diagonal_nan before.cells i k (columns_nan crate_rule m i k late A broken) left)
      ∙ answer_is nan i

  -- a refusal in the first c columns is the call's
  refused_first : (c : ℕ) → c ≤ y.order → is_done (factor_columns crate_rule m c A).answer ≡ false → r ≡ (factor_columns crate_rule m c A).answer
  refused_first c inside failed = extended_answer call fits ∙ ap (λ (o : Outcome). o.answer) (sym (refusal_answers crate_rule m A c y.order inside failed))

  pub nan_told : NanTold m i r
  unfolding factor_columns
  nan_told = done_or_refused before.answer at_row earlier
    where
      at_row : is_done before.answer ≡ true → NanTold m i r
      at_row passed =
          let answer : r ≡ Err (CholeskyNan i) = refused_first (i + 1) (omega arith) (ap is_done (judged passed)) ∙ judged passed in
          let place : place_of r ≡ i = ap place_of answer in
          record { refused = ap is_done answer; from = omega arith; upto = omega arith; here = λ h. answer }

      earlier : is_done before.answer ≡ false → NanTold m i r
      earlier failed =
          let answer : r ≡ before.answer = refused_first i (omega arith) failed in
          let in_rows = refused_in crate_names (columns_answered crate_rule m 0 i m (λ j low from. from) (started A) refl) failed in
          let place : place_of r ≡ place_of before.answer = ap place_of answer in
          record { refused = ap is_done answer ∙ failed; from = omega arith; upto = omega arith; here = λ h. absurd (omega arith) }
