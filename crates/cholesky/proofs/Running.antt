-- The laws of the engine's loop over columns. Assumes nothing.
use Rattle.std.specs.Prelude.{Result, Ok, Err}
use mathlib.Core.Path.{◌≡◌, refl, sym, ◌∙◌, ap, ap₂, subst}
use mathlib.Core.Bool.{true, false}
use mathlib.Core.List.{List}
use Prim.Native.Nat.{ℕ, ◌+◌, ◌≤◌, ◌<◌}
use native.Mathlib.Omega.{arith}
use lib.Ieee.{Float}
use borrow.Author.Tests.{lt-ltb}
use Rattle.answer.specs.declared.Refusal.{Refusal}
use Rattle.answer.specs.Answer.{Answer, Done, answer_of, is_done}
use Rattle.matrix.specs.declared.Layout.{Layout}
use Rattle.matrix.specs.Matrix.{Matrix, entry}
use Rattle.matrix.specs.Loop.{for}
use Rattle.matrix.specs.Grid.{Sound, Holds, load, mask}
use Rattle.matrix.specs.Layouts.{lower}
use Rattle.matrix.proofs.Loops.{for_none, for_more}
use Rattle.cholesky.specs.declared.engine.Verdict.{Verdict}
use Rattle.cholesky.specs.Run.{Rule, Outcome, updates, below, continued, judged_column, worked, factor_column, started, factor_columns}
use Rattle.cholesky.specs.Leaves.{Leaves}
use Rattle.cholesky.specs.Used.{used_from, used_by}
use Rattle.cholesky.specs.inner.Engine.{used_once, Judgement, Ends, count_of, Finished, Advanced, RanThrough}
use Rattle.cholesky.proofs.Parts.{leaves_agree, leaves_none, leaves_then}
use Rattle.cholesky.proofs.Onward.{column_judged, refusal_answers}
use Rattle.cholesky.proofs.Outcomes.{Like, below_agree, judged_like, column_like}
use Rattle.cholesky.proofs.Rows.{judged_answer}
use Rattle.cholesky.proofs.Counting.{used_none, used_join, used_early, used_refused, used_upto_law, used_like, used_judged}

-- ---- one column

module _ (ρ : Rule) (y : Layout) (l₀ : List Float) (j : ℕ) {d : Float} (is : d ≡ load (lower y) l₀ j j) where
  abbrev M : Matrix
  M = load (lower y) l₀

  -- the judgement is the column's answer
  module _ {r : Result Verdict Refusal} (by : Judgement ρ d j r) where
    verdict_is : answer_of r ≡ ρ.verdict (M j j) j
    verdict_is = by.answer ∙ ap (λ (d : Float). ρ.verdict d j) is

    counted : (n : ℕ) → n ≡ used_once (is_done (answer_of r)) (M j j) → n ≡ used_once (is_done (judged_column ρ j M).answer) (M j j)
    counted n once = once ∙ ap (λ (r : Answer). used_once (is_done r) (M j j)) (verdict_is ∙ sym (judged_answer ρ j M))

  pub finish_done : {v : Verdict} {l l' : List Float} → Judgement ρ d j (Ok v)
      → Holds (lower y) l₀ l (entry M j j v.root) → Leaves y l l' (below (j + 1) j (load (lower y) l)) → Finished ρ y j l₀ l' (Ok v.used)
  unfolding judged_column
  finish_done {v} {l} by put step =
      let rooted : load (lower y) l ≡ entry M j j (ρ.root (M j j)) = put.cells ∙ ap (entry M j j) (by.root ∙ ap ρ.root is) in
      record {
        ends =
            rw (ap is_done (sym (verdict_is by)))
            (record {
              answer = refl;
              leaves = record {
                holds = record {
                  sound = step.holds.sound;
                  cells = step.holds.cells ∙ ap (λ (N : Matrix). mask (lower y) (below (j + 1) j N)) rooted;
                  kept = λ p free. step.holds.kept p free ∙ put.kept p free;
                };
              };
            });
        used = counted by v.used (by.used ∙ ap (used_once true) is);
      }

  pub finish_refused : {fault : Refusal} → Sound (lower y) l₀ → Judgement ρ d j (Err fault) → Finished ρ y j l₀ l₀ (Err fault)
  unfolding judged_column
  finish_refused good by = record {
    ends = rw (ap is_done (sym (verdict_is by))) (record { answer = verdict_is by; leaves = leaves_none good });
    used = counted by 0 refl;
  }

module _ (ρ : Rule) (m j : ℕ) where
  continued_is : (M : Matrix) → j < m → factor_column ρ m j (started M) ≡ continued m j (updates m j M)
  unfolding factor_column worked
  continued_is M lt = rw (lt-ltb j m lt)

  pub advance_continued : {y : Layout} {l₀ l l' : List Float} → j < m → m ≤ y.order
      → Leaves y l₀ l (updates m j (load (lower y) l₀)) → Leaves y l l' (below m j (load (lower y) l)) → Advanced ρ y m j l₀ l' (Ok 0)
  unfolding continued
  advance_continued {y} {l₀} {l' = l'} lt inside updated divided = record {
    ends =
        subst (Ends y l₀ l' Done) (sym (continued_is (load (lower y) l₀) lt))
        (record { answer = refl; leaves = leaves_then updated divided (below_agree m j (omega arith) (leaves_agree updated)) });
    used = sym (used_early ρ m j (j + 1) (started (load (lower y) l₀)) (omega arith));
  }

  pub advance_judged : {y : Layout} {l₀ l l' : List Float} {r : Result ℕ Refusal} → m ≤ j → j < y.order
      → Leaves y l₀ l (updates j j (load (lower y) l₀)) → Finished ρ y j l l' r → Advanced ρ y m j l₀ l' r
  advance_judged {y} {l₀} {l} {l'} {r} le lt updated finished = record {
    ends =
        subst (Ends y l₀ l' (answer_of r)) (sym (column_judged ρ m j (started (load (lower y) l₀)) le refl))
        (record { answer = finished.ends.answer ∙ same.answer; leaves = leaves_then updated finished.ends.leaves same.cells });
    used =
        finished.used
        ∙ ap₂ (λ (r : Answer) (d : Float). used_once (is_done r) d) same.answer ((leaves_agree updated).at j j (omega arith) lt)
        ∙ sym (used_judged ρ m j (load (lower y) l₀) le);
  }
    where
      same : Like y.order (judged_column ρ j (load (lower y) l)) (judged_column ρ j (updates j j (load (lower y) l₀)))
      same = judged_like ρ j lt (leaves_agree updated)

-- ---- the columns

-- the columns before j are done, none was refused, and u of them used the floor
pub record Running (ρ : Rule) (y : Layout) (m : ℕ) (l₀ : List Float) (j : ℕ) (l : List Float) (u : ℕ) : Type 0 where
  pub ends : Ends y l₀ l Done (for 0 j (factor_column ρ m) (started (load (lower y) l₀)))
  pub used : u ≡ used_from ρ m 0 j (started (load (lower y) l₀))

pub running_none : {ρ : Rule} {y : Layout} {m : ℕ} {l : List Float} → Sound (lower y) l → Running ρ y m l 0 l 0
running_none {ρ} {y} {m} {l} good = record {
  ends = subst (Ends y l l Done) (sym (for_none 0 (factor_column ρ m) (started (load (lower y) l)))) (record { answer = refl; leaves = leaves_none good });
  used = sym (used_none ρ m 0 (started (load (lower y) l)));
}

module _ {ρ : Rule} {y : Layout} {m : ℕ} {l₀ : List Float} {j : ℕ} {l : List Float} {u : ℕ} (inside : j < y.order) (so : Running ρ y m l₀ j l u) where
  -- what the first columns come to
  abbrev first : ℕ → Outcome
  first k = for 0 k (factor_column ρ m) (started (load (lower y) l₀))

  -- as the slice holds it
  same : Like y.order (started (load (lower y) l)) (first j)
  same = record { answer = so.ends.answer; cells = leaves_agree so.ends.leaves }

  -- one column more, refused or not
  module _ {l' : List Float} {r : Result ℕ Refusal} (step : Advanced ρ y m j l l' r) where
    on_ends : Ends y l₀ l' (answer_of r) (first (j + 1))
    on_ends =
        let like : Like y.order (factor_column ρ m j (started (load (lower y) l))) (factor_column ρ m j (first j)) = column_like ρ m j inside same in
        subst (Ends y l₀ l' (answer_of r)) (sym (for_more 0 j (factor_column ρ m) (started (load (lower y) l₀)) (omega arith)))
        (record { answer = step.ends.answer ∙ like.answer; leaves = leaves_then so.ends.leaves step.ends.leaves like.cells })

    on_used : u + count_of r ≡ used_from ρ m 0 (j + 1) (started (load (lower y) l₀))
    on_used =
        ap₂ ◌+◌ so.used (step.used ∙ used_like ρ m j (j + 1) (omega arith) same)
        ∙ sym (used_join ρ m 0 j (j + 1) (started (load (lower y) l₀)) (omega arith) (omega arith))

  module _ {l' : List Float} where
    pub running_small : {more : ℕ} → Advanced ρ y m j l l' (Ok more) → u + more ≤ y.order
    running_small step = let bound = used_upto_law ρ m 0 (j + 1) (started (load (lower y) l₀)) (omega arith) in omega (arith, on_used step)

    pub running_more : {more : ℕ} → Advanced ρ y m j l l' (Ok more) → Running ρ y m l₀ (j + 1) l' (u + more)
    running_more step = record { ends = on_ends step; used = on_used step }

    pub running_refused : {fault : Refusal} → Advanced ρ y m j l l' (Err fault) → RanThrough ρ y m l₀ l' (record { answer = Err fault; used = u })
    unfolding factor_columns
    running_refused {fault} step = record {
      ends = subst (Ends y l₀ l' (Err fault)) (refusal_answers ρ m (load (lower y) l₀) (j + 1) y.order (omega arith) failed) (on_ends step);
      used =
          let rest : used_from ρ m (j + 1) y.order (first (j + 1)) ≡ 0 = used_refused ρ m (j + 1) y.order _ failed in
          let all = used_join ρ m 0 (j + 1) y.order (started (load (lower y) l₀)) (omega arith) (omega arith) in
          omega (arith, on_used step);
    }
      where
        failed : is_done (first (j + 1)).answer ≡ false
        failed = ap is_done (sym (on_ends step).answer)

pub running_all : {ρ : Rule} {y : Layout} {m : ℕ} {l₀ : List Float} {j : ℕ} {l : List Float} {u : ℕ} → Running ρ y m l₀ j l u → j ≡ y.order → RanThrough ρ y m l₀ l (record { answer = Done; used = u })
unfolding factor_columns
running_all {ρ} {y} {m} {l₀} {l = l} so end = record {
  ends = subst (λ (k : ℕ). Ends y l₀ l Done (for 0 k (factor_column ρ m) (started (load (lower y) l₀)))) end so.ends;
  used = so.used ∙ ap (λ (k : ℕ). used_by ρ m k (load (lower y) l₀)) end;
}
