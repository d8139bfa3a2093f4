-- The steps of the engine, each from what its parts leave. Assumes nothing.
--     diagonal_passed, diagonal_refused   the diagonal gets its root, or stays
--     left_found                          an entry left of it
--     row_found                           the diagonal after the entries left of it
--     order_none, order_refused, order_more   no row; a refusal among the rows before; a row more
use Rattle.std.specs.Prelude.{Err}
use mathlib.Core.Path.{◌≡◌, sym, ◌∙◌, ap, ap₂}
use mathlib.Core.Bool.{true, false}
use mathlib.Core.List.{List}
use Prim.Native.Nat.{ℕ, ◌+◌, ◌-◌}
use native.Mathlib.Omega.{arith}
use lib.Ieee.{Float, lt}
use Rattle.answer.specs.declared.Refusal.{Refusal}
use Rattle.answer.specs.Answer.{Answer, Done, is_done}
use Rattle.leaf.specs.Root.{root_of}
use Rattle.matrix.specs.declared.Layout.{Layout}
use Rattle.matrix.specs.Matrix.{Matrix, entry}
use Rattle.matrix.specs.Loop.{for}
use Rattle.matrix.specs.Grid.{Sound, Holds, load}
use Rattle.matrix.specs.Layouts.{lower}
use Rattle.matrix.specs.Rounded.{◌⊘◌, plus_zero}
use Rattle.matrix.proofs.Loops.{for_none, for_more}
use Rattle.matrix.proofs.Grids.{holds_none, holds_then, holds_as}
use Rattle.cholesky.specs.Column.{updated}
use Rattle.cholesky.specs.Run.{Rule, Outcome, started}
use Rattle.cholesky.specs.Crate.{answer_to, crate_rule}
use Rattle.cholesky.proofs.Diagonal.{answer_passes}
use Rattle.teaching.specs.inner.Rows.{left_of, on_diagonal, last_row, row_after, by_rows, Does}

-- ---- row r

module _ (r : ℕ) where
  pub left_found : (c : ℕ) (y : Layout) {l₀ l : List Float} {x d : Float} → x ≡ updated (load (lower y) l₀) c c r → d ≡ load (lower y) l₀ c c
      → Holds (lower y) l₀ l (entry (load (lower y) l₀) r c (x ⊘ d)) → Holds (lower y) l₀ l (left_of r c (load (lower y) l₀))
  unfolding left_of
  left_found c y {l₀} left diagonal put = holds_as put (ap (entry (load (lower y) l₀) r c) (ap₂ ◌⊘◌ left diagonal))

  module _ {y : Layout} {l₀ l : List Float} {d : Float} (is : d ≡ updated (load (lower y) l₀) r r r) where
    pub diagonal_passed : {x : Float} → lt plus_zero d ≡ true → x ≡ root_of d → Holds (lower y) l₀ l (entry (load (lower y) l₀) r r x) → Does y (on_diagonal crate_rule r) l₀ l Done
    unfolding on_diagonal
    diagonal_passed passed root put =
        let judged = ap (λ (x : Float). is_done (answer_to x r)) (sym is) ∙ answer_passes d r ∙ passed in
        record { answer = rw judged; holds = rw judged (holds_as put (ap (entry (load (lower y) l₀) r r) (root ∙ ap root_of is))) }

    pub diagonal_refused : {s : Answer} → lt plus_zero d ≡ false → s ≡ answer_to d r → Holds (lower y) l₀ l (entry (load (lower y) l₀) r r d) → Does y (on_diagonal crate_rule r) l₀ l s
    unfolding on_diagonal
    diagonal_refused failed told put =
        let judged = ap (λ (x : Float). is_done (answer_to x r)) (sym is) ∙ answer_passes d r ∙ failed in
        record { answer = rw judged (told ∙ ap (λ (x : Float). answer_to x r) is); holds = rw judged (holds_as put (ap (entry (load (lower y) l₀) r r) is)) }

-- ---- steps one after the other

-- some work after what was done
does_then : {y : Layout} {l₀ l l' : List Float} {s : Answer} {M : Matrix} (work : Matrix → Outcome) → Holds (lower y) l₀ l M → Does y work l l' s → (s ≡ (work M).answer) × Holds (lower y) l₀ l' (work M).cells
does_then work before step = (step.answer ∙ ap (λ (N : Matrix). (work N).answer) before.cells, holds_then (λ (N : Matrix). (work N).cells) before step.holds)

pub row_found : (r : ℕ) {y : Layout} {l₀ l l' : List Float} {s : Answer} → Holds (lower y) l₀ l (for 0 r (left_of r) (load (lower y) l₀))
    → Does y (on_diagonal crate_rule r) l l' s → Does y (last_row crate_rule r) l₀ l' s
unfolding last_row
row_found r before step = let both = does_then (on_diagonal crate_rule r) before step in record { answer = both.0; holds = both.1 }

module _ (ρ : Rule) (n : ℕ) where
  pub order_none : {y : Layout} {l : List Float} → Sound (lower y) l → n ≡ 0 → Does y (by_rows ρ n) l l Done
  unfolding by_rows
  order_none {y} {l} good none =
      let is : started (load (lower y) l) ≡ by_rows ρ n (load (lower y) l) =
      sym (for_none 0 (row_after ρ) (started (load (lower y) l))) ∙ ap (λ (k : ℕ). by_rows ρ k (load (lower y) l)) (sym none) in
      record { answer = ap (λ (o : Outcome). o.answer) is; holds = holds_as (holds_none good) (ap (λ (o : Outcome). o.cells) is) }

  module _ {y : Layout} {l₀ l : List Float} {s : Answer} (some : n ≡ 0 → ⊥) (before : Does y (by_rows ρ (n - 1)) l₀ l s) where
    next : by_rows ρ n (load (lower y) l₀) ≡ row_after ρ (n - 1) (by_rows ρ (n - 1) (load (lower y) l₀))
    unfolding by_rows
    next =
        let last : n ≡ n - 1 + 1 = omega (arith, some) in
        ap (λ (k : ℕ). by_rows ρ k (load (lower y) l₀)) last ∙ for_more 0 (n - 1) (row_after ρ) (started (load (lower y) l₀)) (omega arith)

  module _ {y : Layout} {l₀ l : List Float} (some : n ≡ 0 → ⊥) where
    pub order_refused : {fault : Refusal} → Does y (by_rows ρ (n - 1)) l₀ l (Err fault) → Does y (by_rows ρ n) l₀ l (Err fault)
    unfolding row_after
    order_refused before =
        let is : by_rows ρ n (load (lower y) l₀) ≡ by_rows ρ (n - 1) (load (lower y) l₀) = next some before ∙ rw (ap is_done (sym before.answer)) in
        record { answer = before.answer ∙ ap (λ (o : Outcome). o.answer) (sym is); holds = holds_as before.holds (ap (λ (o : Outcome). o.cells) (sym is)) }

    pub order_more : {l' : List Float} {s : Answer} → Does y (by_rows ρ (n - 1)) l₀ l Done → Does y (last_row ρ (n - 1)) l l' s → Does y (by_rows ρ n) l₀ l' s
    unfolding row_after
    order_more before step =
        let is : by_rows ρ n (load (lower y) l₀) ≡ last_row ρ (n - 1) (by_rows ρ (n - 1) (load (lower y) l₀)).cells = next some before ∙ rw (ap is_done (sym before.answer)) in
        let both = does_then (last_row ρ (n - 1)) before.holds step in
        record { answer = both.0 ∙ ap (λ (o : Outcome). o.answer) (sym is); holds = holds_as both.1 (ap (λ (o : Outcome). o.cells) (sym is)) }
