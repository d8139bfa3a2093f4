-- Columns by the rule with a floor beside those by the crate's own. Assumes nothing.
--     crate_unused      by the crate's own rule no column is counted
--     columns_unused    no column used the floor: all columns come out as by the crate's own rule
--     columns_accepted  the crate's own rule accepts them: they come out the same, and none used the floor
use mathlib.Core.Path.{◌≡◌, refl, sym, ◌∙◌, ap, ap₂, subst}
use mathlib.Core.Bool.{Bool, true, false, cond, not, ◌&&◌, true≢false}
use mathlib.Core.Logic.{◌⊎◌, inl, inr}
use Prim.Native.Nat.{ℕ, zero, suc, ◌+◌, ◌≤◌, ◌<◌}
use native.Mathlib.Numerals.{add-one}
use native.Mathlib.Omega.{arith}
use lib.Ieee.{Float}
use borrow.Author.Tests.{lt-ltb}
use Rattle.answer.specs.Answer.{Done, is_done}
use Rattle.answer.proofs.Done.{done_or_refused}
use Rattle.answer.proofs.Tests.{lt_or_ge}
use Rattle.leaf.specs.Root.{root_of}
use Rattle.matrix.specs.Matrix.{Matrix, entry}
use Rattle.matrix.specs.Loop.{for}
use Rattle.matrix.proofs.Loops.{for_none, for_more}
use Rattle.cholesky.specs.Column.{updated}
use Rattle.cholesky.specs.Run.{Outcome, updates, below, judged_column, worked, factor_column, started, factor_columns}
use Rattle.cholesky.specs.Crate.{answer_to, crate_rule}
use Rattle.cholesky.specs.Floor.{passes, standing, floor_rule}
use Rattle.cholesky.specs.Used.{used_at, used_by}
use Rattle.cholesky.proofs.Diagonal.{answer_passes}
use Rattle.cholesky.proofs.Floor.{standing_own, standing_plain, floor_passes}
use Rattle.cholesky.proofs.Onward.{column_judged, column_stays, accepted_before}
use Rattle.cholesky.proofs.Counting.{used_none, used_one, used_join, used_before, used_at_law, used_unfinished, none_counted}
use Rattle.cholesky.proofs.Rows.{updates_in, judged_answer}

-- the diagonal that column j judges
abbrev diagonal : ℕ → Outcome → Float
diagonal j o = updated o.cells j j j

-- ---- by the crate's own rule

crate_column : (m j : ℕ) (o : Outcome) → used_at crate_rule m j o ≡ false
crate_column m j o = by (lt_or_ge j m)
  where
    never : (b : Bool) → (b && not b) ≡ false
    never true = refl
    never false = refl

    by : (j < m) ⊎ (m ≤ j) → used_at crate_rule m j o ≡ false
    by (inl early) = used_before crate_rule m j o early
    by (inr late) =
        done_or_refused o.answer
        (λ done. used_at_law crate_rule m j o late done ∙ ap (λ (b : Bool). b && not (passes (diagonal j o))) (answer_passes (diagonal j o) j) ∙ never (passes (diagonal j o)))
        (λ refused. used_unfinished crate_rule m j o (ap (λ (p : Outcome). is_done p.answer) (column_stays crate_rule m j o refused) ∙ refused))

pub crate_unused : (m n : ℕ) (A : Matrix) → used_by crate_rule m n A ≡ 0
crate_unused m n A = none_counted crate_rule m 0 n (started A) (λ j from upto. crate_column m j (for 0 j (factor_column crate_rule m) (started A)))

-- ---- one column by both rules

module _ (s : Float) (m : ℕ) where
  judged_same : (j : ℕ) (U : Matrix) → standing s (U j j) ≡ U j j → judged_column (floor_rule s) j U ≡ judged_column crate_rule j U
  unfolding judged_column
  judged_same j U own =
      ap (λ (x : Float).
      cond (is_done (answer_to x j))
      (record { answer = Done; cells = below (j + 1) j (entry U j j (root_of x)) })
      (record { answer = answer_to x j; cells = U })) own

  -- the rules agree on the diagonal, where it is judged at all
  column_same : (j : ℕ) (o : Outcome) → (m ≤ j → is_done o.answer ≡ true → standing s (diagonal j o) ≡ diagonal j o) → factor_column (floor_rule s) m j o ≡ factor_column crate_rule m j o
  unfolding factor_column worked
  column_same j o own = done_or_refused o.answer (λ done. by done (lt_or_ge j m)) (λ refused. column_stays (floor_rule s) m j o refused ∙ sym (column_stays crate_rule m j o refused))
    where
      by : is_done o.answer ≡ true → (j < m) ⊎ (m ≤ j) → factor_column (floor_rule s) m j o ≡ factor_column crate_rule m j o
      by done (inl early) = rw (done, lt-ltb j m early)
      by done (inr late) =
          column_judged (floor_rule s) m j o late done
          ∙ judged_same j (updates j j o.cells) (subst (λ (d : Float). standing s d ≡ d) (sym (updates_in j j o.cells j (omega arith))) (own late done))
          ∙ sym (column_judged crate_rule m j o late done)

  -- a column that did not use the floor judged its own diagonal
  unused_own : (j : ℕ) (o : Outcome) → m ≤ j → is_done o.answer ≡ true → used_at (floor_rule s) m j o ≡ false → standing s (diagonal j o) ≡ diagonal j o
  unused_own j o late done unused = by (passes s) refl
    where
      passing : (b : Bool) → not b ≡ false → b ≡ true
      passing true e = refl
      passing false e = absurd (true≢false e)

      by : (b : Bool) → passes s ≡ b → standing s (diagonal j o) ≡ diagonal j o
      by true floor =
          standing_own s (diagonal j o)
          (passing (passes (diagonal j o))
          (ap (λ (b : Bool). b && not (passes (diagonal j o))) (sym (floor_passes s floor (diagonal j o) j)) ∙ sym (used_at_law (floor_rule s) m j o late done) ∙ unused))
      by false floor = standing_plain s (diagonal j o) floor

  -- a column that the crate's own rule accepts
  accepted_passes : (j : ℕ) (o : Outcome) → m ≤ j → is_done o.answer ≡ true → is_done (factor_column crate_rule m j o).answer ≡ true → passes (diagonal j o) ≡ true
  accepted_passes j o late done accepted =
      sym (answer_passes (diagonal j o) j)
      ∙ ap (λ (d : Float). is_done (answer_to d j)) (sym (updates_in j j o.cells j (omega arith)))
      ∙ ap is_done (sym (judged_answer crate_rule j (updates j j o.cells)))
      ∙ ap (λ (p : Outcome). is_done p.answer) (sym (column_judged crate_rule m j o late done))
      ∙ accepted

  accepted_unused : (j : ℕ) (o : Outcome) → is_done o.answer ≡ true → is_done (factor_column crate_rule m j o).answer ≡ true → used_at (floor_rule s) m j o ≡ false
  accepted_unused j o done accepted = by (lt_or_ge j m)
    where
      never : (b : Bool) → (b && false) ≡ false
      never true = refl
      never false = refl

      by : (j < m) ⊎ (m ≤ j) → used_at (floor_rule s) m j o ≡ false
      by (inl early) = used_before (floor_rule s) m j o early
      by (inr late) =
          used_at_law (floor_rule s) m j o late done
          ∙ ap (λ (b : Bool). is_done ((floor_rule s).verdict (diagonal j o) j) && not b) (accepted_passes j o late done accepted)
          ∙ never (is_done ((floor_rule s).verdict (diagonal j o) j))

  -- ---- all columns by both rules

  module _ (A : Matrix) where
    abbrev floored : ℕ → Outcome
    floored j = for 0 j (factor_column (floor_rule s) m) (started A)

    abbrev plain : ℕ → Outcome
    plain j = for 0 j (factor_column crate_rule m) (started A)

    start : floored 0 ≡ plain 0
    start = for_none 0 (factor_column (floor_rule s) m) (started A) ∙ sym (for_none 0 (factor_column crate_rule m) (started A))

    -- one column more
    more : (j : ℕ) → floored j ≡ plain j → factor_column (floor_rule s) m j (floored j) ≡ factor_column crate_rule m j (floored j) → floored (j + 1) ≡ plain (j + 1)
    more j so same =
        for_more 0 j (factor_column (floor_rule s) m) (started A) (omega arith)
        ∙ same
        ∙ ap (factor_column crate_rule m j) so
        ∙ sym (for_more 0 j (factor_column crate_rule m) (started A) (omega arith))

    counted : (j : ℕ) → used_by (floor_rule s) m (j + 1) A ≡ used_by (floor_rule s) m j A + cond (used_at (floor_rule s) m j (floored j)) 1 0
    counted j =
        used_join (floor_rule s) m 0 j (j + 1) (started A) (omega arith) (omega arith)
        ∙ ap (λ (u : ℕ). used_by (floor_rule s) m j A + u) (used_one (floor_rule s) m j (floored j))

    pub columns_unused : (n : ℕ) → used_by (floor_rule s) m n A ≡ 0 → floored n ≡ plain n
    columns_unused zero none = start
    columns_unused (suc j) none = subst (λ (k : ℕ). floored k ≡ plain k) (add-one j) (more j (columns_unused j before) (column_same j (floored j) (λ late done. unused_own j (floored j) late done unused)))
      where
        split : used_by (floor_rule s) m j A + cond (used_at (floor_rule s) m j (floored j)) 1 0 ≡ 0
        split = sym (counted j) ∙ ap (λ (k : ℕ). used_by (floor_rule s) m k A) (add-one j) ∙ none

        before : used_by (floor_rule s) m j A ≡ 0
        before = let sum = split in omega arith

        nothing : (b : Bool) → ◌≡◌ {A = ℕ} (cond b 1 0) 0 → b ≡ false
        nothing true e = absurd (omega arith)
        nothing false e = refl

        unused : used_at (floor_rule s) m j (floored j) ≡ false
        unused = nothing (used_at (floor_rule s) m j (floored j)) (let sum = split in omega arith)

    pub columns_accepted : (n : ℕ) → is_done (plain n).answer ≡ true → (floored n ≡ plain n) × (used_by (floor_rule s) m n A ≡ 0)
    columns_accepted zero accepted = (start, used_none (floor_rule s) m 0 (started A))
    columns_accepted (suc j) all = subst (λ (k : ℕ). (floored k ≡ plain k) × (used_by (floor_rule s) m k A ≡ 0)) (add-one j) (by (columns_accepted j before))
      where
        accepted : is_done (plain (j + 1)).answer ≡ true
        accepted = ap (λ (k : ℕ). is_done (plain k).answer) (add-one j) ∙ all

        before : is_done (plain j).answer ≡ true
        before = unfold factor_columns in accepted_before crate_rule m A j (j + 1) (omega arith) accepted

        by : (floored j ≡ plain j) × (used_by (floor_rule s) m j A ≡ 0) → (floored (j + 1) ≡ plain (j + 1)) × (used_by (floor_rule s) m (j + 1) A ≡ 0)
        by so =
            let done : is_done (floored j).answer ≡ true = ap (λ (o : Outcome). is_done o.answer) so.0 ∙ before in
            let column : is_done (factor_column crate_rule m j (floored j)).answer ≡ true =
            ap (λ (o : Outcome). is_done o.answer) (ap (factor_column crate_rule m j) so.0 ∙ sym (for_more 0 j (factor_column crate_rule m) (started A) (omega arith))) ∙ accepted in (
              more j so.0 (column_same j (floored j) (λ late passed. standing_own s (diagonal j (floored j)) (accepted_passes j (floored j) late passed column))),
              counted j ∙ ap₂ (λ (u : ℕ) (b : Bool). u + cond b 1 0) so.1 (accepted_unused j (floored j) done column),
            )
