-- The way back, the row that was found last carried from row to row.
--     found                     a row's step
--     row_stored                what a row is that was stored
--     back_none, back_all       no rows; the last row divided, and then the others
use Rattle.std.specs.Prelude.{List, ◌≡◌, ℕ, suc, ◌+◌, ◌-◌, ◌*◌, ◌<◌, Float, length, set}
use Rattle.std.specs.Float.{nan}
use Rattle.std.proofs.Common.{arith, sym, ap, ◌∙◌, get_or-set_same}
use Rattle.std.proofs.Math.Path.{fun_ext}
use Rattle.std.proofs.Math.Seq.{set-get_or}
use Rattle.matrix.specs.Rounded.{◌⊖◌, ◌⊗◌, ◌⊘◌}
use Rattle.matrix.specs.Matrix.{Matrix}
use Rattle.matrix.specs.Loop.{turns, for, falling}
use Rattle.matrix.specs.Columns.{at, column, each_column}
use Rattle.matrix.proofs.Loops.{for_one, for_join}
use Rattle.matrix.proofs.Columns.{each_loop, each_none, column_length, column_within}
use Rattle.matrix.proofs.ColumnsLoops.{sinking, falling_uniform}
use Rattle.substitution.specs.Steps.{divide_one, less_product, gather_row}
use Rattle.substitution.proofs.Rows.{put_first}
use Rattle.cholesky_solve.specs.Triangles.{transposed_row, solve_transposed}
use Rattle.cholesky_solve.proofs.Keeps.{transposed_row_keeps}
use Rattle.cholesky_solve.proofs.Pairs.{store_again}

-- what a row is that was stored
pub row_stored
    : (n columns i : ℕ) (b : List Float) → length b ≡ n * columns → i < n → (r : ℕ → Float) (b' : List Float)
    → ((j : ℕ) → j < columns → column n j b' ≡ set (column n j b) i (r j))
    → (j : ℕ) → j < columns → r j ≡ at (column n j b') i
row_stored n columns i b long inside r b' put j below =
    let whole : length (column n j b) ≡ n = column_length n j b (omega (arith, column_within n columns j below, long)) in
    sym (ap (λ (l : List Float). at l i) (put j below) ∙ get_or-set_same (column n j b) i _ nan (omega (arith, whole)))

module _ (n : ℕ) (L : Matrix) where
  -- the first product by itself
  first_product
      : (i : ℕ) → i + 1 < n → (b : List Float)
      → for (i + 1) n (less_product L b i) (at b i) ≡ for (i + 2) n (less_product L b i) (at b i ⊖ L (i + 1) i ⊗ at b (i + 1))
  unfolding less_product
  first_product i inside b =
      let place : i + 1 + 1 ≡ i + 2 = omega arith in
      sym (for_join (i + 1) (i + 1 + 1) n (less_product L b i) (at b i) (omega arith) (omega arith))
      ∙ ap (for (i + 1 + 1) n (less_product L b i)) (for_one (i + 1) (less_product L b i) (at b i))
      ∙ ap (λ (lo : ℕ). for lo n (less_product L b i) (less_product L b i (i + 1) (at b i))) place

  -- the row gathered and divided is stored once
  row_is : (i : ℕ) (b : List Float) → set b i (for (i + 1) n (less_product L b i) (at b i) ⊘ L i i) ≡ transposed_row n L i b
  unfolding transposed_row divide_one gather_row
  row_is i b = sym (store_again b i (for (i + 1) n (less_product L b i) (at b i)) (λ v. v ⊘ L i i))

  -- the last row has none after it
  last_row_law : 0 < n → (b : List Float) → transposed_row n L (n - 1) b ≡ divide_one L (n - 1) b
  unfolding transposed_row gather_row for turns
  last_row_law positive b =
      let none : n - (n - 1 + 1) ≡ 0 = omega arith in
      ap (λ (c : ℕ). divide_one L (n - 1) (set b (n - 1) (turns (n - 1 + 1) (less_product L b (n - 1)) (at b (n - 1)) c))) none
      ∙ ap (divide_one L (n - 1)) (set-get_or b (n - 1) nan)

  module _ (columns : ℕ) (b : List Float) (long : length b ≡ n * columns) where
    pub found
        : (i : ℕ) {x last first less r : ℕ → Float} {g d : Float} {b' : List Float} → i + 1 < n → ((j : ℕ) → j < columns → x j ≡ at (column n j b) i)
        → ((j : ℕ) → j < columns → last j ≡ at (column n j b) (i + 1)) → g ≡ L (i + 1) i → ((j : ℕ) → j < columns → first j ≡ x j ⊖ g ⊗ last j)
        → ((j : ℕ) → j < columns → less j ≡ for (i + 2) n (less_product L (column n j b) i) (first j)) → d ≡ L i i → ((j : ℕ) → j < columns → r j ≡ less j ⊘ d)
        → length b' ≡ length b → ((j : ℕ) → j < columns → column n j b' ≡ set (column n j b) i (r j))
        → b' ≡ each_column n columns (transposed_row n L i) b
    found i inside ex el eg ef es ed er kept put =
        put_first long i
        (record {
          number = λ j below.
              er j below ∙ rw (es j below, ef j below, ex j below, el j below, eg, ed) (ap (λ (v : Float). v ⊘ L i i) (sym (first_product i inside (column n j b))));
        })
        kept
        put
        ∙ ap (λ (f : List Float → List Float). each_column n columns f b) (fun_ext (row_is i))

    pub back_none : n ≡ 0 → b ≡ each_column n columns (solve_transposed n L) b
    unfolding solve_transposed falling
    back_none none =
        sym
        (ap (λ (f : List Float → List Float). each_column n columns f b) (fun_ext (λ l. ap (λ (m : ℕ). falling m (transposed_row n L) l) none))
        ∙ each_none n columns b long)

    pub back_all
        : 0 < n → {b₁ b₂ : List Float} → b₁ ≡ each_column n columns (divide_one L (n - 1)) b
        → b₂ ≡ falling (n - 1) (λ i. each_column n columns (transposed_row n L i)) b₁
        → b₂ ≡ each_column n columns (solve_transposed n L) b
    unfolding solve_transposed falling
    back_all positive e₁ e₂ =
        let rows : suc (n - 1) ≡ n = omega arith in
        e₂
        ∙ ap (falling (n - 1) (λ i. each_column n columns (transposed_row n L i)))
        (e₁ ∙ ap (λ (f : List Float → List Float). each_column n columns f b) (fun_ext (λ l. sym (last_row_law positive l))))
        ∙ ap (λ (m : ℕ). falling m (λ i. each_column n columns (transposed_row n L i)) b) rows
        ∙ each_loop n columns (sinking n) (falling_uniform n) (transposed_row n L) (transposed_row_keeps n L) b long
