-- The promises of the calls that both layouts have speak of the grid alone: each is what an engine does. So the layout theorem is true of them,
-- `unpacked_alike`: unpacked, what a packed call gives and leaves is what the full one does.
-- Assumes nothing.
use Rattle.std.specs.Prelude.{Result, Ok, Err, IsOkAnd}
use mathlib.Core.Path.{◌≡◌, refl, sym, ◌∙◌, ap, ap₂, subst}
use mathlib.Core.Bool.{true, false, cond, true≢false}
use mathlib.Core.List.{List, [], ◌∷◌, ◌++◌}
use Prim.Native.Nat.{ℕ, ◌*◌}
use lib.Dec.{leb, eqb}
use lib.ListN.{length}
use lib.Ieee.{Float}
use Rattle.answer.specs.declared.Refusal.{Refusal}
use Rattle.answer.specs.declared.Refusal.TheVariants.{OutOfRange, SliceLength}
use Rattle.answer.specs.Answer.{Answer, Done, is_done}
use Rattle.answer.specs.Refusals.{Test, ◌otherwise◌, tested}
use Rattle.answer.proofs.Done.{done_or_refused}
use Rattle.answer.proofs.Tested.{tested_join, tested_passed, tested_refused}
use Rattle.answer.proofs.Tests.{either}
use Rattle.matrix.specs.declared.Layout.{Layout}
use Rattle.matrix.specs.Matrix.{Matrix}
use Rattle.matrix.specs.Grid.{load, mask, Holds}
use Rattle.matrix.specs.Layouts.{full, lower}
use Rattle.matrix.specs.Columns.{each_column}
use Rattle.matrix.specs.Sizes.{size_tests, sizes_of}
use Rattle.matrix.specs.Engines.{Engine, Works, GridAlone}
use Rattle.matrix.proofs.Grids.{holds_none}
use Rattle.matrix.proofs.Sizes.{done_fits, laid_fits}
use Rattle.matrix.proofs.Engines.{works_read}
use Rattle.pivots.specs.Words.{words_of}
use Rattle.lblt.specs.Factor.{final_state, recorded, Factored}
use Rattle.lblt_read.specs.Calls.{word_tests, side_tests, column_tests, LbltDetermined}
use Rattle.lblt_read.specs.Diagonal.{determinant_of}
use Rattle.lblt_solve_columns.specs.Column.{solve_column}
use Rattle.lblt_solve.specs.Solve.{mark_tests, LbltSolved}
use Rattle.cholesky.specs.Run.{factor_columns}
use Rattle.cholesky.specs.Crate.{crate_rule}
use Rattle.cholesky.specs.Promise.{Extended}
use Rattle.cholesky.specs.Solve.{solve_sides, CholeskySolved}
use Rattle.cholesky_solve.specs.Triangles.{solve_triangles}
use Rattle.twins.specs.First.{Found, First, FirstTwinOn}
use Rattle.twins.proofs.Exists.{some_first}
use Rattle.twins.proofs.Unique.{first_unique}

-- ---- tests after those of size

-- r where the sizes are passed, else their refusal
abbrev after : {A : Type 0} → Answer → Result A Refusal → Result A Refusal
after (Ok x) r = r
after (Err fault) r = Err fault

after_done : {A : Type 0} (sizes : Answer) (r : Result A Refusal) → is_done sizes ≡ true → after sizes r ≡ r
after_done (Ok x) r done = refl
after_done (Err fault) r done = absurd (true≢false (sym done))

after_refused : {A : Type 0} (sizes : Answer) (r : Result A Refusal) → is_done sizes ≡ false → is_done (after sizes r) ≡ false
after_refused (Ok x) r refused = absurd (true≢false refused)
after_refused (Err fault) r refused = refl

module _ (y : Layout) (m len : ℕ) {A : Type 0} where
  sizes_after : (r : Result A Refusal) → tested (size_tests y m len) r ≡ after (tested (size_tests y m len) Done) r
  sizes_after r = by (tested (size_tests y m len) Done) refl
    where
      by : (sizes : Answer) → tested (size_tests y m len) Done ≡ sizes → tested (size_tests y m len) r ≡ after sizes r
      by (Ok tt) passed = tested_passed (size_tests y m len) r passed
      by (Err fault) refused = tested_refused (size_tests y m len) r refused

  then_after : (more : List Test) (r : Result A Refusal) → tested (size_tests y m len ++ more) r ≡ after (tested (size_tests y m len) Done) (tested more r)
  then_after more r = tested_join (size_tests y m len) more r ∙ sizes_after (tested more r)

-- ---- a call that only reads the slice

reading : {Back : Type 0} {m : ℕ} {Promise : Layout → List Float → Back → Type 0} (f : Answer → ℕ → Matrix → Back)
    → ((y : Layout) (l : List Float) (back : Back) → Promise y l back → back ≡ f (sizes_of y m l) y.order (load (lower y) l))
    → GridAlone m (λ y l back l'. Promise y l back × (l' ≡ l))
reading {Back} {m} f is = record {
  engine = record { back = f; cells = λ n M. M };
  works = λ y l back l' h. subst (Works (record { back = f; cells = λ n M. M }) y m l back) (sym h.1) (works_read f (is y l back h.0));
}

-- ---- LBLT's factor: the answer and the record come back

module _ (run : ℕ) (words : List ℕ) where
  abbrev record_test : ℕ → List Test
  record_test n = (eqb (length words) (words_of n) otherwise SliceLength) ∷ []

  abbrev factor_answer : Answer → ℕ → Answer
  factor_answer sizes n = after sizes (tested (record_test n) Done)

  lblt_factor : Engine (Answer × List ℕ)
  lblt_factor = record {
    back = λ sizes n M. (factor_answer sizes n, cond (is_done (factor_answer sizes n)) (recorded n run M words) words);
    cells = λ n M. cond (is_done (tested (record_test n) Done)) (final_state n M words).matrix M;
  }

  pub lblt_factor_alone : GridAlone 0 (λ y a (back : Answer × List ℕ) a'. Factored y run a words back.0 a' back.1)
  unfolding lblt_factor
  lblt_factor_alone = record { engine = lblt_factor; works = works }
    where
      works : (y : Layout) (a : List Float) (back : Answer × List ℕ) (a' : List Float) → Factored y run a words back.0 a' back.1 → Works lblt_factor y 0 a back a'
      works y a (r, words') a' f = record { comes = ap₂ (λ (x : Answer) (w : List ℕ). (x, w)) answered record_left; leaves = record { done = matrix_left; refused = untouched } }
        where
          answered : r ≡ factor_answer (sizes_of y 0 a) y.order
          answered = f.answer ∙ then_after y 0 (length a) (record_test y.order) Done

          record_left : words' ≡ cond (is_done (factor_answer (sizes_of y 0 a) y.order)) (recorded y.order run (load (lower y) a) words) words
          record_left =
              done_or_refused r
              (λ done. (f.left.done done).pivots ∙ rw (ap is_done (sym answered) ∙ done) refl)
              (λ refused. (f.left.refused refused).pivots ∙ rw (ap is_done (sym answered) ∙ refused) refl)

          passed : is_done (sizes_of y 0 a) ≡ true → r ≡ tested (record_test y.order) Done
          passed done = answered ∙ after_done (sizes_of y 0 a) _ done

          matrix_left : is_done (sizes_of y 0 a) ≡ true → Holds (lower y) a a' (cond (is_done (tested (record_test y.order) Done)) (final_state y.order (load (lower y) a) words).matrix (load (lower y) a))
          matrix_left fits =
              either (Holds (lower y) a a') (is_done (tested (record_test y.order) Done))
              (λ done. (f.left.done (ap is_done (passed fits) ∙ done)).matrix)
              (λ refused. subst (λ (l : List Float). Holds (lower y) a l (load (lower y) a)) (sym (f.left.refused (ap is_done (passed fits) ∙ refused)).matrix) (holds_none (laid_fits {l = a} (done_fits y 0 (length a) Done fits)).sound))

          untouched : is_done (sizes_of y 0 a) ≡ false → a' ≡ a
          untouched refused = (f.left.refused (ap is_done answered ∙ after_refused (sizes_of y 0 a) _ refused)).matrix

-- ---- LBLT's determinant: the answer comes back, with the value

module _ (run : ℕ) (words : List ℕ) where
  lblt_determinant : Answer → ℕ → Matrix → Result Float Refusal
  lblt_determinant sizes n M = after sizes (tested (word_tests n run words) (Ok (determinant_of n M words)))

  pub lblt_determinant_alone : GridAlone 0 (λ y a r a'. LbltDetermined y run a words r × (a' ≡ a))
  unfolding lblt_determinant
  lblt_determinant_alone = reading lblt_determinant (λ y a r d. d.answer ∙ then_after y 0 (length a) (word_tests y.order run words) (Ok (determinant_of y.order (load (lower y) a) words)))

-- ---- LBLT's solve: the answer and the right-hand sides come back

module _ (columns run : ℕ) (words : List ℕ) (b : List Float) where
  abbrev side_test : ℕ → List Test
  side_test n = (eqb (length b) (n * columns) otherwise SliceLength) ∷ []

  abbrev few : List Test
  few = (leb columns 1024 otherwise OutOfRange) ∷ []

  abbrev solve_answer : Answer → ℕ → Answer
  solve_answer sizes n = tested few (after sizes (tested (side_test n) (tested (word_tests n run words) (tested (mark_tests n words) Done))))

  lblt_solve : Answer → ℕ → Matrix → Answer × List Float
  lblt_solve sizes n M = (solve_answer sizes n, cond (is_done (solve_answer sizes n)) (each_column n columns (solve_column n M words) b) b)

  pub lblt_solve_alone : GridAlone 0 (λ y a (back : Answer × List Float) a'. LbltSolved y columns run a words b back.0 back.1 × (a' ≡ a))
  unfolding lblt_solve tested
  lblt_solve_alone = reading lblt_solve (λ y a back s. is y a back s)
    where
      is : (y : Layout) (a : List Float) (back : Answer × List Float) → LbltSolved y columns run a words b back.0 back.1
          → back ≡ lblt_solve (sizes_of y 0 a) y.order (load (lower y) a)
      is y a (r, b') s =
          ap₂ (λ (x : Answer) (l : List Float). (x, l)) answered
          (s.sides ∙ ap (λ (x : Answer). cond (is_done x) (each_column y.order columns (solve_column y.order (load (lower y) a) words) b) b) answered)
        where
          answered : r ≡ solve_answer (sizes_of y 0 a) y.order
          answered =
              s.answer
              ∙ tested_join (column_tests y columns run a words b) (mark_tests y.order words) Done
              ∙ tested_join (side_tests y columns a b) (word_tests y.order run words) (tested (mark_tests y.order words) Done)
              ∙ ap (tested few) (then_after y 0 (length a) (side_test y.order) (tested (word_tests y.order run words) (tested (mark_tests y.order words) Done)))

-- ---- Cholesky's factor and further batch: the answer comes back

module _ (m : ℕ) where
  cholesky : Engine Answer
  cholesky = record {
    back = λ sizes n M. after sizes (factor_columns crate_rule m n M).answer;
    cells = λ n M. mask (lower (full n)) (factor_columns crate_rule m n M).cells;
  }

  pub cholesky_alone : GridAlone m (λ y l r l'. Extended y m l l' r)
  unfolding cholesky lower mask
  cholesky_alone = record { engine = cholesky; works = works }
    where
      works : (y : Layout) (l : List Float) (r : Answer) (l' : List Float) → Extended y m l l' r → Works cholesky y m l r l'
      works y l r l' e = record {
        comes = e.answer ∙ sizes_after y m (length l) (factor_columns crate_rule m y.order (load (lower y) l)).answer;
        leaves = record { done = λ done. (e.left.done done).holds; refused = e.left.refused };
      }

-- ---- Cholesky's solve: the answer and the right-hand sides come back

module _ (columns : ℕ) (b : List Float) where
  abbrev triangles_answer : Answer → ℕ → Answer
  triangles_answer sizes n = tested ((leb columns 1024 otherwise OutOfRange) ∷ []) (after sizes (tested ((eqb (length b) (n * columns) otherwise SliceLength) ∷ []) Done))

  cholesky_solve : Answer → ℕ → Matrix → Answer × List Float
  cholesky_solve sizes n M = (triangles_answer sizes n, cond (is_done (triangles_answer sizes n)) (each_column n columns (solve_triangles n M) b) b)

  pub cholesky_solve_alone : GridAlone 0 (λ y a (back : Answer × List Float) a'. CholeskySolved y columns a b back.1 back.0 × (a' ≡ a))
  unfolding cholesky_solve solve_sides tested
  cholesky_solve_alone = reading cholesky_solve (λ y a back s. is y a back s)
    where
      is : (y : Layout) (a : List Float) (back : Answer × List Float) → CholeskySolved y columns a b back.1 back.0
          → back ≡ cholesky_solve (sizes_of y 0 a) y.order (load (lower y) a)
      is y a (r, b') s =
          ap₂ (λ (x : Answer) (l : List Float). (x, l)) answered
          (s.sides ∙ ap (λ (x : Answer). cond (is_done x) (each_column y.order columns (solve_triangles y.order (load (lower y) a)) b) b) answered)
        where
          answered : r ≡ triangles_answer (sizes_of y 0 a) y.order
          answered =
              s.answer
              ∙ ap (tested ((leb columns 1024 otherwise OutOfRange) ∷ []))
              (then_after y 0 (length a) ((eqb (length b) (y.order * columns) otherwise SliceLength) ∷ []) Done)

-- ---- the search for twins

module _ (m : ℕ) where
  first_twin : Answer → ℕ → Matrix → Found
  first_twin sizes n M = after sizes (Ok (some_first n M m).0)

  found_is : (n : ℕ) (M : Matrix) (r : Found) → IsOkAnd r (First n M m) → r ≡ Ok (some_first n M m).0
  found_is n M (Ok pair) first = ap Ok (first_unique first (some_first n M m).1)
  found_is n M (Err fault) first = absurd first

  pub first_twin_alone : GridAlone m (λ y a r a'. FirstTwinOn y m a r × (a' ≡ a))
  unfolding first_twin
  first_twin_alone = reading first_twin (λ y a r f. by y a r f (sizes_of y m a) refl)
    where
      by : (y : Layout) (a : List Float) (r : Found) → FirstTwinOn y m a r → (sizes : Answer) → sizes_of y m a ≡ sizes → r ≡ after sizes (Ok (some_first y.order (load (lower y) a) m).0)
      by y a r f (Ok tt) passed = found_is y.order (load (lower y) a) r (f.found (ap is_done passed))
      by y a r f (Err fault) refused = f.refused refused
