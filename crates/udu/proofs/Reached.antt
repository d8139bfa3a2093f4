-- The loop over the columns: `Reached p n j u d` says that the columns of p from j on are found and stand in u and d.
--     reached_none              before the last column
--     accepted_on, refused_on   after one more column
--     columned_all              after the first column
--     refused_stays             a refusal stands
-- Assumes nothing.
use Rattle.std.specs.Prelude.{Err}
use mathlib.Core.Bool.{Bool, true, false, cond}
use mathlib.Core.List.{List}
use mathlib.Core.Path.{◌≡◌, refl, sym, ◌∙◌, ap, ap₂, subst}
use Prim.Native.Nat.{ℕ, zero, suc, ◌+◌, ◌-◌, ◌<◌}
use native.Mathlib.Omega.{arith}
use lib.Dec.{eqb}
use lib.ListN.{set}
use lib.Seq.{ext_get_or}
use lib.Ieee.{Float, nan, eq}
use Rattle.answer.specs.declared.Refusal.TheVariants.{ZeroDiagonal}
use Rattle.answer.specs.Answer.{Done}
use Rattle.matrix.specs.Matrix.{Matrix}
use Rattle.matrix.specs.Loop.{falling}
use Rattle.matrix.specs.Grid.{load}
use Rattle.matrix.specs.Layouts.{upper}
use Rattle.matrix.specs.Rounded.{◌⊕◌, ◌⊖◌, ◌⊗◌, ◌⊘◌, plus_zero, one}
use Rattle.matrix.proofs.Loops.{for_same, Fell, fell_none, fell_more}
use Rattle.strips.proofs.Strips.{strip_as}
use Rattle.udu.specs.Columns.{Factors, UduRun, accepted, refused, nothing, plus_square, plus_cross, square_sum, cross_sum, udu_diagonal, last_entry, further_entry, udu_entry, with_diagonal, with_column, column_by, udu_column, udu_columns}
use Rattle.udu.specs.Promise.{Holding, udu_of, udu_answer, factors_of}
use Rattle.udu.specs.inner.Contracts.{Zeros, factors_in, diagonal_in, ColumnStep, Columned}
use Rattle.udu.proofs.Entries.{kept}
use Rattle.udu.proofs.Holding.{cell, holding_diagonal, holding_column}

-- ---- a refusal stands

pub refused_stays : (n : ℕ) (P : Matrix) (c j : ℕ) (F : Factors) → falling c (udu_column n P) (refused j F) ≡ refused j F
unfolding falling udu_column
refused_stays n P zero j F = refl
refused_stays n P (suc c) j F = refused_stays n P c j F

-- ---- what column j is worked out from in the slices is what was found

module _ {n : ℕ} {F : Factors} {u d : List Float} (P : Matrix) (h : Holding n F u d) (j : ℕ) (below : j < n) where
  same_diagonal : udu_diagonal n P (factors_in n u d) j ≡ udu_diagonal n P F j
  unfolding udu_diagonal square_sum
  same_diagonal =
      ap (λ (s : Float). cond (eqb (j + 1) n) (P j j) (P j j ⊖ s))
      (for_same (j + 1) n (plus_square (factors_in n u d) j) (plus_square F j) plus_zero (λ k s from upto.
      ap₂ (λ (x y : Float). s ⊕ x ⊗ (y ⊗ y)) (h.diagonal.cells k upto) (cell F.u h.upper j k below upto)))

  same_entry : (x : Float) (i : ℕ) → i < n → udu_entry n P (factors_in n u d) x j i ≡ udu_entry n P F x j i
  unfolding udu_entry further_entry cross_sum
  same_entry x i row =
      ap (λ (s : Float). cond (eqb (j + 1) n) (last_entry P x j i) (cond (eqb i j) one ((P i j ⊖ s) ⊘ x)))
      (for_same (j + 1) n (plus_cross (factors_in n u d) j i) (plus_cross F j i) plus_zero (λ k s from upto.
      ap₂ (λ (y z : Float). s ⊕ y ⊗ z) (ap₂ (λ (y z : Float). y ⊗ z) (h.diagonal.cells k upto) (cell F.u h.upper j k below upto)) (cell F.u h.upper i k row upto)))

-- ---- the loop

pub record Reached (p : List Float) (n j : ℕ) (u d : List Float) : Type 0 where
  pub found : Factors
  pub fell : Fell n (udu_column n (load (upper n) p)) (accepted nothing) j (accepted found)
  pub holding : Holding n found u d
  pub zeros : Zeros n j u

pub reached_none : {n : ℕ} {u d : List Float} (p : List Float) → Holding n nothing u d → Reached p n n u d
reached_none p h = record {
  found = nothing;
  fell = fell_none;
  holding = h;
  zeros = record { cells = λ i k row column. unfold nothing in cell nothing.u h.upper i k row column };
}

pub columned_all : {p : List Float} {n : ℕ} {u d : List Float} → Reached p n 0 u d → Columned n (udu_of n p) Done u d
unfolding udu_of udu_columns falling
columned_all {p} {n} {u} {d} r =
    record { answer = ap udu_answer r.fell.left; slices = subst (λ (R : UduRun). Holding n (factors_of R) u d) r.fell.left r.holding }

module _ {p : List Float} {n : ℕ} (j : ℕ) {u₀ d₀ : List Float} (before : Reached p n (j + 1) u₀ d₀) where
  abbrev P : Matrix
  P = load (upper n) p

  abbrev x : Float
  x = diagonal_in n j p u₀ d₀

  below : j < n
  below = omega (arith, before.fell.upto)

  -- what is left to do after column j
  column_left : (b : Bool) → b ≡ eq x plus_zero → Fell n (udu_column n P) (accepted nothing) j (column_by n P before.found j x b)
  unfolding udu_column
  column_left b is =
      subst (λ (k : ℕ). Fell n (udu_column n P) (accepted nothing) k (column_by n P before.found j x b)) (let last : j + 1 - 1 ≡ j = omega arith in last)
      (fell_more before.fell (omega arith)
      (ap (column_by n P before.found j x) is
      ∙ ap (λ (y : Float). column_by n P before.found j y (eq y plus_zero)) (same_diagonal P before.holding j below)
      ∙ ap (λ (k : ℕ). udu_column n P k (accepted before.found)) (let last : j ≡ j + 1 - 1 = omega arith in last)))

  with_diagonal_law : {d : List Float} → d ≡ set d₀ j x → Holding n (with_diagonal before.found j x) u₀ d
  with_diagonal_law {d} is = subst (Holding n (with_diagonal before.found j x) u₀) (sym is) (holding_diagonal j x below before.holding)

  reached : {u d : List Float} → ColumnStep n j p u₀ d₀ false u d → Reached p n j u d
  reached {u} {d} step = record {
    found = with_column (with_diagonal before.found j x) j (udu_entry n P before.found x j);
    fell = column_left false step.tested;
    holding =
        holding_column j _ below (strip_as step.column (λ i from row. same_entry P before.holding j below x i (omega (arith, below)))) (with_diagonal_law step.diagonal);
    zeros = record { cells = λ i k row column. kept n j step.column (omega (arith, below)) i k row (λ e. omega arith) ∙ before.zeros.cells i k row (omega arith) };
  }

  stopped : {u d : List Float} → ColumnStep n j p u₀ d₀ true u d → Columned n (udu_of n p) (Err (ZeroDiagonal j)) u d
  unfolding udu_of udu_columns
  stopped {u} {d} step = record {
    answer = ap udu_answer whole;
    slices = subst (λ (R : UduRun). Holding n (factors_of R) u d) whole (subst (λ (l : List Float). Holding n (with_diagonal before.found j x) l d) (sym unwritten) (with_diagonal_law step.diagonal));
  }
    where
      whole : refused j (with_diagonal before.found j x) ≡ falling n (udu_column n P) (accepted nothing)
      whole = sym (refused_stays n P j j (with_diagonal before.found j x)) ∙ (column_left true step.tested).left

      unwritten : u ≡ u₀
      unwritten = ext_get_or nan u u₀ step.column.long (λ q inside. step.column.outside q (λ i from upto. absurd (omega arith)))

-- by what was answered, at the column before the last that was reached
module _ {p : List Float} {n k : ℕ} (j : ℕ) {u₀ d₀ u d : List Float} {r : Bool} (before : Reached p n k u₀ d₀) (next : k ≡ j + 1) (step : ColumnStep n j p u₀ d₀ r u d) where
  here : Reached p n (j + 1) u₀ d₀
  here = subst (λ (k : ℕ). Reached p n k u₀ d₀) next before

  pub accepted_on : r ≡ false → Reached p n j u d
  accepted_on e = reached j here (subst (λ (b : Bool). ColumnStep n j p u₀ d₀ b u d) e step)

  pub refused_on : r ≡ true → Columned n (udu_of n p) (Err (ZeroDiagonal j)) u d
  refused_on e = stopped j here (subst (λ (b : Bool). ColumnStep n j p u₀ d₀ b u d) e step)
