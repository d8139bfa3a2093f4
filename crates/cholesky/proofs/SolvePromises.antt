-- The promise of `solve_mut`: refused, solved, unique, and each column by itself. Assumes nothing.
use Rattle.std.specs.Prelude.{Err}
use mathlib.Core.Path.{◌≡◌, refl, sym, ◌∙◌, ap}
use mathlib.Core.Bool.{true}
use mathlib.Core.List.{List, [], ◌∷◌, ◌++◌}
use Prim.Native.Nat.{ℕ, ◌*◌, ◌≤◌, ◌<◌}
use lib.Dec.{eqb}
use lib.ListN.{length}
use lib.Ieee.{Float}
use borrow.Author.Tests.{le-leb, lt-leb, eq-eqb, ne_eqb, eqb-true}
use Rattle.answer.specs.declared.Refusal.{Refusal}
use Rattle.answer.specs.declared.Refusal.TheVariants.{OutOfRange, SliceLength}
use Rattle.answer.specs.Answer.{Answer, Done, is_done}
use Rattle.answer.specs.Refusals.{◌otherwise◌, tested}
use Rattle.answer.proofs.Done.{value_alike}
use Rattle.answer.proofs.Tested.{here, tested_all, tested_at, joined_refused, all_hold}
use Rattle.matrix.specs.declared.Layout.{Layout}
use Rattle.matrix.specs.Grid.{load}
use Rattle.matrix.specs.Layouts.{lower}
use Rattle.matrix.specs.Sizes.{size_tests, Fits}
use Rattle.matrix.proofs.Sizes.{fits_then}
use Rattle.matrix.specs.Columns.{column, each_column}
use Rattle.matrix.proofs.Columns.{each_column_law}
use Rattle.cholesky_solve.specs.Triangles.{solve_triangles}
use Rattle.cholesky_solve.proofs.Keeps.{triangles_keeps}
use Rattle.cholesky.specs.Solve.{sides_tests, solve_sides, CholeskySolved}

module _ (y : Layout) (columns : ℕ) where
  -- the tests after that of the columns
  few_is : (factor sides : ℕ) → columns ≤ 1024 → tested (sides_tests y columns factor sides) Done ≡ tested (size_tests y 0 factor ++ ((eqb sides (y.order * columns) otherwise SliceLength) ∷ [])) Done
  unfolding tested
  few_is factor sides few = rw (le-leb columns 1024 few)

  -- where those are passed
  fit_is : (factor sides : ℕ) → columns ≤ 1024 → Fits y 0 factor → tested (sides_tests y columns factor sides) Done ≡ tested ((eqb sides (y.order * columns) otherwise SliceLength) ∷ []) Done
  fit_is factor sides few f = few_is factor sides few ∙ fits_then y 0 factor f ((eqb sides (y.order * columns) otherwise SliceLength) ∷ []) Done

  -- what is done has n numbers a column
  done_long : (factor sides : ℕ) → is_done (tested (sides_tests y columns factor sides) Done) ≡ true → sides ≡ y.order * columns
  done_long factor sides done =
      let held = (all_hold (sides_tests y columns factor sides) Done done).0 in
      eqb-true sides (y.order * columns) held.1.1.1.1.1.1.1.0

module _ {y : Layout} {columns : ℕ} where
  -- ---- refused

  pub solved_wide : {a b : List Float} → 1024 < columns → CholeskySolved y columns a b b (Err OutOfRange)
  solved_wide wide = record { answer = sym (tested_at _ Done (here (lt-leb columns 1024 wide) refl)); sides = refl }

  module _ (few : columns ≤ 1024) {a b : List Float} where
    pub solved_unfit : {fault : Refusal} → Err fault ≡ tested (size_tests y 0 (length a)) Done → CholeskySolved y columns a b b (Err fault)
    solved_unfit is = record { answer = sym (few_is y columns (length a) (length b) few ∙ joined_refused (size_tests y 0 (length a)) _ Done (sym is)); sides = refl }

    module _ (f : Fits y 0 (length a)) where
      pub solved_short : (length b ≡ y.order * columns → ⊥) → CholeskySolved y columns a b b (Err SliceLength)
      solved_short short = record { answer = sym (fit_is y columns (length a) (length b) few f ∙ tested_at _ Done (here (ne_eqb _ _ short) refl)); sides = refl }

      pub solved_fit : {b' : List Float} → length b ≡ y.order * columns → b' ≡ each_column y.order columns (solve_triangles y.order (load (lower y) a)) b → CholeskySolved y columns a b b' Done
      unfolding solve_sides
      solved_fit long e = record { answer = sym (fit_is y columns (length a) (length b) few f ∙ tested_all _ Done (eq-eqb _ _ long, tt)); sides = e }

  -- ---- the promise fixes the answer and the right-hand sides

  pub solved_unique : {a b c c' : List Float} {r r' : Answer} → CholeskySolved y columns a b c r → CholeskySolved y columns a b c' r' → (r ≡ r') × (c ≡ c')
  solved_unique s t =
      let same = s.answer ∙ sym t.answer in
      (same, s.sides ∙ value_alike _ _ same ∙ sym t.sides)

  -- ---- each column by itself

  -- a column's solution is a function of the factor and of that column alone
  pub cholesky_column_solved
      : {a b b' : List Float} {r : Answer} → CholeskySolved y columns a b b' r → is_done r ≡ true → (j : ℕ) → j < columns
      → column y.order j b' ≡ solve_triangles y.order (load (lower y) a) (column y.order j b)
  unfolding solve_sides
  cholesky_column_solved {a} {b} s done j below =
      let f = solve_triangles y.order (load (lower y) a) in
      ap (column y.order j) (s.sides ∙ rw done)
      ∙ each_column_law y.order f (triangles_keeps y.order (load (lower y) a)) columns b (done_long y columns (length a) (length b) (ap is_done (sym s.answer) ∙ done)) j below

  -- of a, the lower triangle of the first n rows and columns alone is read
  pub lower_alone
      : {a a' b b' : List Float} {r : Answer} → length a ≡ length a' → load (lower y) a ≡ load (lower y) a'
      → CholeskySolved y columns a b b' r → CholeskySolved y columns a' b b' r
  unfolding solve_sides
  lower_alone {b = b} long same s = record {
    answer = s.answer ∙ ap (λ (len : ℕ). tested (sides_tests y columns len (length b)) Done) long;
    sides = s.sides ∙ rw same;
  }
