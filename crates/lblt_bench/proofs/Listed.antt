-- What the tests of `solve_bench` answer, and what they tell where it goes on.
--     list_fits, list_wrong         the list's length
--     sides_answer … mark_answers   each part's answer where those before it are passed: that of all tests
--     as_solve                      a list that fits: the answer of `solve_mut`
--     list_refused                  one that does not: the other slices', or 4
--     bench_admitted                what is known where all tests hold
--     bench_solved                  the promise, where they do and each own column is solved
use Rattle.std.proofs.Common.{Err, true, List, ◌++◌, ◌≡◌, refl, sym, ap, ◌∙◌, ℕ, Float, length, eq-eqb, ne_eqb, eqb-true}
use Rattle.answer.specs.declared.Refusal.{Refusal}
use Rattle.answer.specs.declared.Refusal.TheVariants.{SliceLength}
use Rattle.answer.specs.Answer.{Answer, Done, is_done}
use Rattle.answer.specs.Refusals.{Test, tested}
use Rattle.answer.proofs.Tested.{here, tested_all, tested_at, tested_join, joined_passed, joined_refused, all_hold}
use Rattle.matrix.specs.declared.Layout.{Layout}
use Rattle.matrix.specs.Grid.{load}
use Rattle.matrix.specs.Layouts.{lower}
use Rattle.matrix.specs.Columns.{each_chosen}
use Rattle.lblt_solve_columns.specs.Column.{solve_column}
use Rattle.lblt_read.specs.Calls.{side_tests, word_tests}
use Rattle.lblt_read.proofs.Admitted.{Columned}
use Rattle.lblt_solve.specs.Solve.{mark_tests, solve_tests}
use Rattle.lblt_solve.proofs.Marked.{solver_admitted}
use Rattle.lblt_bench.specs.Bench.{owns, list_tests, bench_tests, BenchSolved}

-- ---- the list

module _ (columns : ℕ) (benches : List ℕ) where
  list_passed : length benches ≡ columns → (r : Answer) → tested (list_tests columns benches) r ≡ r
  list_passed fits r = tested_all (list_tests columns benches) r (eq-eqb (length benches) columns fits, tt)

  pub list_fits : length benches ≡ columns → Done ≡ tested (list_tests columns benches) Done
  list_fits fits = sym (list_passed fits Done)

  pub list_wrong : (length benches ≡ columns → ⊥) → Err SliceLength ≡ tested (list_tests columns benches) Done
  list_wrong other = sym (tested_at (list_tests columns benches) Done (here (ne_eqb (length benches) columns other) refl))

-- ---- all tests

module _ (y : Layout) (columns run : ℕ) (a : List Float) (words : List ℕ) (b : List Float) (benches : List ℕ) where
  abbrev rest : List Test
  rest = word_tests y.order run words ++ mark_tests y.order words

  -- ---- part by part

  pub sides_answer : {fault : Refusal} → Err fault ≡ tested (side_tests y columns a b) Done → Err fault ≡ tested (bench_tests y columns run a words b benches) Done
  sides_answer is = sym (joined_refused (side_tests y columns a b) (list_tests columns benches ++ rest) Done (sym is))

  module _ (sides : Done ≡ tested (side_tests y columns a b) Done) where
    sides_passed : tested (bench_tests y columns run a words b benches) Done ≡ tested (list_tests columns benches ++ rest) Done
    sides_passed = joined_passed (side_tests y columns a b) (list_tests columns benches ++ rest) Done (sym sides)

    pub list_answers : {fault : Refusal} → Err fault ≡ tested (list_tests columns benches) Done → Err fault ≡ tested (bench_tests y columns run a words b benches) Done
    list_answers is = sym (sides_passed ∙ joined_refused (list_tests columns benches) rest Done (sym is))

    module _ (list : Done ≡ tested (list_tests columns benches) Done) where
      list_done : tested (bench_tests y columns run a words b benches) Done ≡ tested rest Done
      list_done = sides_passed ∙ joined_passed (list_tests columns benches) rest Done (sym list)

      pub words_answer : {fault : Refusal} → Err fault ≡ tested (word_tests y.order run words) Done → Err fault ≡ tested (bench_tests y columns run a words b benches) Done
      words_answer is = sym (list_done ∙ joined_refused (word_tests y.order run words) (mark_tests y.order words) Done (sym is))

      pub mark_answers
          : Done ≡ tested (word_tests y.order run words) Done
          → {r : Answer} → r ≡ tested (mark_tests y.order words) Done → r ≡ tested (bench_tests y columns run a words b benches) Done
      mark_answers read is = is ∙ sym (list_done ∙ joined_passed (word_tests y.order run words) (mark_tests y.order words) Done (sym read))

  pub as_solve : length benches ≡ columns → tested (bench_tests y columns run a words b benches) Done ≡ tested (solve_tests y columns run a words b) Done
  as_solve fits =
      tested_join (side_tests y columns a b) (list_tests columns benches ++ rest) Done
      ∙ ap (tested (side_tests y columns a b)) (tested_join (list_tests columns benches) rest Done ∙ list_passed columns benches fits (tested rest Done))
      ∙ sym (tested_join (side_tests y columns a b) rest Done)

  pub list_refused : (length benches ≡ columns → ⊥) → tested (bench_tests y columns run a words b benches) Done ≡ tested (side_tests y columns a b) (Err SliceLength)
  list_refused other =
      tested_join (side_tests y columns a b) (list_tests columns benches ++ rest) Done
      ∙ ap (tested (side_tests y columns a b)) (tested_at (list_tests columns benches ++ rest) Done (here (ne_eqb (length benches) columns other) refl))

  pub bench_admitted : {r : Answer} → r ≡ tested (bench_tests y columns run a words b benches) Done → is_done r ≡ true → (length benches ≡ columns) × Columned y columns a words b
  bench_admitted is done =
      let after : Answer = tested (list_tests columns benches ++ rest) Done in
      let sides = all_hold (side_tests y columns a b) after (ap is_done (sym (is ∙ tested_join (side_tests y columns a b) (list_tests columns benches ++ rest) Done)) ∙ done) in
      let list = all_hold (list_tests columns benches) (tested rest Done) (ap is_done (sym (tested_join (list_tests columns benches) rest Done)) ∙ sides.1) in
      let fits = eqb-true (length benches) columns list.0.0 in
      (fits, solver_admitted y columns run a words b (is ∙ as_solve fits) done)

  pub bench_solved
      : {bench : ℕ} {b' : List Float} → Done ≡ tested (bench_tests y columns run a words b benches) Done
      → b' ≡ each_chosen y.order (length benches) (owns benches bench) (solve_column y.order (load (lower y) a) words) b
      → BenchSolved y columns bench run a words b benches Done b'
  bench_solved {bench} is each =
      let solve : ℕ → List Float = λ count. each_chosen y.order count (owns benches bench) (solve_column y.order (load (lower y) a) words) b in
      record { answer = is; sides = each ∙ ap solve (bench_admitted is refl).0 }
