-- A loop that writes row after row of some columns: `Sweeping columns n lo g b₀ i b` is its invariant.
-- g r l m is the number that row r of a column gets, which was l before the loop and is m now.
use Rattle.std.specs.Prelude.{List, ◌≡◌, ℕ, ◌+◌, ◌*◌, ◌<◌, ◌≤◌, Float, length, get_or, set}
use Rattle.std.specs.Float.{nan}
use Rattle.std.proofs.Common.{sym, ap, ◌∙◌, length-set}
use Rattle.std.proofs.Math.Path.{fun_ext}
use Rattle.matrix.specs.Rounded.{◌⊖◌, ◌⊗◌}
use Rattle.matrix.specs.declared.Layout.{Layout}
use Rattle.matrix.specs.Grid.{load}
use Rattle.matrix.specs.Layouts.{lower, start_of}
use Rattle.matrix.specs.Loop.{for}
use Rattle.matrix.proofs.Loops.{for_none, for_more}
use Rattle.matrix.specs.Columns.{at, column, each_column}
use Rattle.matrix.proofs.ColumnsLoops.{Keeping, for_long}
use Rattle.matrix.proofs.Columns.{each_long, each_none}
use Rattle.substitution.specs.Steps.{eliminate_one, eliminate_two}
use Rattle.substitution.proofs.Offsets.{less_one_law, less_two_law}
use Rattle.substitution.proofs.Rows.{Across, across_both, row_each, put_each}

-- what the number of a row is made of
abbrev pub Written : Type 0
Written = ℕ → List Float → List Float → Float

-- a column after the rows from lo up to i
abbrev pub swept : ℕ → Written → ℕ → List Float → List Float
swept lo g i l = for lo i (λ r m. set m r (g r l m)) l

pub record Sweeping (columns n lo : ℕ) (g : Written) (b₀ : List Float) (i : ℕ) (b : List Float) : Type 0 where
  pub given : length b₀ ≡ n * columns
  pub is : b ≡ each_column n columns (swept lo g i) b₀

swept_keeps : (lo : ℕ) (g : Written) (i : ℕ) → Keeping (swept lo g i)
swept_keeps lo g i l = for_long lo i (λ r m. set m r (g r l m)) l (λ r m. length-set m r (g r l m))

module _ {columns n lo : ℕ} {g : Written} where
  pub sweeping_none : {b : List Float} → length b ≡ n * columns → Sweeping columns n lo g b lo b
  sweeping_none {b} long =
      record {
        given = long;
        is =
            sym
            (ap (λ (f : List Float → List Float). each_column n columns f b) (fun_ext (λ l. for_none lo (λ r m. set m r (g r l m)) l)) ∙ each_none n columns b long);
      }

  module _ {b₀ : List Float} {i : ℕ} {b : List Float} (w : Sweeping columns n lo g b₀ i b) where
    -- row i of the columns as they are
    pub sweeping_row : {x : ℕ → Float} → ((j : ℕ) → j < columns → x j ≡ at (column n j b) i) → Across columns n (λ l. at (swept lo g i l) i) b₀ x
    sweeping_row e = row_each w.given i (swept lo g i) (swept_keeps lo g i) w.is e

    pub sweeping_more
        : {x : ℕ → Float} {b' : List Float} → lo ≤ i → Across columns n (λ l. g i l (swept lo g i l)) b₀ x → length b' ≡ length b
        → ((j : ℕ) → j < columns → column n j b' ≡ set (column n j b) i (x j))
        → Sweeping columns n lo g b₀ (i + 1) b'
    sweeping_more low row kept put =
        record {
          given = w.given;
          is =
              put_each w.given i (swept lo g i) (swept_keeps lo g i) row w.is kept put
              ∙ ap (λ (f : List Float → List Float). each_column n columns f b₀) (fun_ext (λ l. sym (for_more lo i (λ r m. set m r (g r l m)) l low)));
        }

-- ---- one or two columns of the factor, from the rows below

abbrev pub written_one : List Float → ℕ → ℕ → Written
written_one a start k r l m = at m r ⊖ get_or a (r + start) nan ⊗ at l k

abbrev pub written_two : List Float → ℕ → ℕ → ℕ → Written
written_two a start next k r l m = at m r ⊖ get_or a (r + start) nan ⊗ at l k ⊖ get_or a (r + next) nan ⊗ at l (k + 1)

module _ {columns n lo : ℕ} {b₀ : List Float} {i : ℕ} {b : List Float} (a : List Float) (start k : ℕ) where
  pub sweep_one
      : {x z r : ℕ → Float} {b' : List Float} → Sweeping columns n lo (written_one a start k) b₀ i b → lo ≤ i
      → ((j : ℕ) → j < columns → x j ≡ at (column n j b₀) k) → ((j : ℕ) → j < columns → z j ≡ at (column n j b) i)
      → ((j : ℕ) → j < columns → r j ≡ z j ⊖ get_or a (i + start) nan ⊗ x j)
      → length b' ≡ length b → ((j : ℕ) → j < columns → column n j b' ≡ set (column n j b) i (r j))
      → Sweeping columns n lo (written_one a start k) b₀ (i + 1) b'
  sweep_one w low ex ez er kept put =
      sweeping_more w low
      (across_both (λ u v. u ⊖ get_or a (i + start) nan ⊗ v) (sweeping_row w ez) (record { number = ex }) er)
      kept
      put

  pub sweep_two
      : (next : ℕ) {x x' z r r' : ℕ → Float} {b' : List Float} → Sweeping columns n lo (written_two a start next k) b₀ i b → lo ≤ i
      → ((j : ℕ) → j < columns → x j ≡ at (column n j b₀) k) → ((j : ℕ) → j < columns → x' j ≡ at (column n j b₀) (k + 1))
      → ((j : ℕ) → j < columns → z j ≡ at (column n j b) i)
      → ((j : ℕ) → j < columns → r j ≡ z j ⊖ get_or a (i + start) nan ⊗ x j) → ((j : ℕ) → j < columns → r' j ≡ r j ⊖ get_or a (i + next) nan ⊗ x' j)
      → length b' ≡ length b → ((j : ℕ) → j < columns → column n j b' ≡ set (column n j b) i (r' j))
      → Sweeping columns n lo (written_two a start next k) b₀ (i + 1) b'
  sweep_two next w low ex ex' ez er er' kept put =
      sweeping_more w low
      (across_both (λ u v. u ⊖ get_or a (i + next) nan ⊗ v)
      (across_both (λ u v. u ⊖ get_or a (i + start) nan ⊗ v) (sweeping_row w ez) (record { number = ex }) er)
      (record { number = ex' })
      er')
      kept
      put

module _ (y : Layout) (a : List Float) (k start : ℕ) (starts : start ≡ start_of y k) {columns i : ℕ} {b₀ b : List Float} (end : i ≡ y.order) where
  pub swept_one
      : Sweeping columns y.order (k + 1) (written_one a start k) b₀ i b
      → b ≡ each_column y.order columns (eliminate_one y.order (load (lower y) a) k) b₀
  unfolding eliminate_one
  swept_one w =
      w.is
      ∙ ap (λ (f : List Float → List Float). each_column y.order columns f b₀)
      (fun_ext (λ l. ap (λ (r : ℕ). swept (k + 1) (written_one a start k) r l) end ∙ less_one_law y a k start starts (at l k) l))

  pub swept_two
      : (next : ℕ) → next ≡ start_of y (k + 1) → Sweeping columns y.order (k + 2) (written_two a start next k) b₀ i b
      → b ≡ each_column y.order columns (eliminate_two y.order (load (lower y) a) k) b₀
  unfolding eliminate_two
  swept_two next nexts w =
      w.is
      ∙ ap (λ (f : List Float → List Float). each_column y.order columns f b₀) (fun_ext (λ l. ap (λ (r : ℕ). swept (k + 2) (written_two a start next k) r l) end ∙ less_two_law y a k start starts next nexts (at l k) (at l (k + 1)) l))
