-- What `solve` by value answers and leaves. Assumes nothing.
use Rattle.std.proofs.Common.{◌≡◌, refl, sym, ◌∙◌, ap, cond, List, append-nil, ℕ, arith, length, Float, Ok, Err}
use Rattle.answer.specs.Answer.{Answer, Done, is_done}
use Rattle.answer.specs.Refusals.{tested}
use Rattle.matrix.specs.Grid.{load}
use Rattle.matrix.specs.Layouts.{full, lower}
use Rattle.matrix.specs.Loop.{for, turns}
use Rattle.matrix.specs.Columns.{column, at_column, each_column}
use Rattle.matrix.specs.Sizes.{Fits}
use Rattle.matrix.proofs.Sizes.{full_fits, fits_pass}
use Rattle.pivots.specs.Rule.{checked, Accepted}
use Rattle.lblt_solve_columns.specs.Column.{solve_column}
use Rattle.lblt_read.specs.Calls.{word_tests, side_tests, column_tests}
use Rattle.lblt_read.proofs.Admitted.{record_broken, record_expected, sides_right, columns_answers}
use Rattle.lblt_solve.specs.Solve.{mark_tests, solve_tests}
use Rattle.lblt_solve.proofs.Marked.{solve_refused, solve_answers, solver_admitted}
use Rattle.handheld.specs.declared.Column3.{Column3}
use Rattle.handheld.specs.declared.Pivots3.{Pivots3}
use Rattle.handheld.specs.declared.numbers.Three.{Three}
use Rattle.handheld.specs.declared.numbers.Nine.{Nine}
use Rattle.handheld.specs.Shapes.{numbers_of, record_of}
use Rattle.handheld.specs.Promise.{SolvedByValue}
use Rattle.handheld.specs.inner.Numbers.{three_of, nine_of, lower_of}
use Rattle.handheld.specs.inner.Triangle.{matrix_of}
use Rattle.handheld.proofs.Triangles.{full_six}
use Rattle.handheld.proofs.Records.{checked_run}

-- ---- the answer

module _ (a b : List Float) (nine : length a ≡ 9) (three : length b ≡ 3) (p : Pivots3) (run : ℕ) where
  fits : Fits (full 3) 0 (length a)
  fits = full_fits 3 (length a) (omega arith) nine

  sizes : Done ≡ tested (side_tests (full 3) 1 a b) Done
  sizes = sides_right (full 3) 1 (omega arith) a b (sym (fits_pass (full 3) 0 (length a) fits Done)) three

  columns : {r : Answer} → r ≡ tested (word_tests 3 run (record_of run p)) Done → r ≡ tested (column_tests (full 3) 1 run a (record_of run p) b) Done
  columns = columns_answers (full 3) 1 run a (record_of run p) b sizes

  -- the pivots' rule, then the mark
  pub check_answers : (fault : Answer) → fault ≡ checked 3 (record_of 0 p)
      → cond (is_done fault) (tested (mark_tests 3 (record_of 0 p)) Done) fault ≡ tested (solve_tests (full 3) 1 run a (record_of run p) b) Done
  unfolding record_of
  check_answers (Ok tt) rule = solve_answers (full 3) 1 run a (record_of run p) b (columns (record_expected 3 run (record_of run p) refl (rule ∙ checked_run p run) refl)) refl
  check_answers (Err refusal) rule = solve_refused (full 3) 1 run a (record_of run p) b (columns (record_broken 3 run (record_of run p) refl (rule ∙ checked_run p run)))

-- ---- what comes back

-- the columns of a side are itself
only_column : (f : List Float → List Float) (b : Three) → each_column 3 1 f (three_of b) ≡ f (three_of b)
unfolding each_column at_column column for turns
only_column f b = append-nil (f (three_of b))

module _ (matrix : List Column3) (p : Pivots3) (side : Column3) (answers : (run : ℕ) → Done ≡ tested (solve_tests (full 3) 1 run (numbers_of matrix) (record_of run p) side.row) Done) where
  pub solve_accepted : Accepted 3 (record_of 0 p)
  solve_accepted = (solver_admitted (full 3) 1 0 (numbers_of matrix) (record_of 0 p) side.row (answers 0) refl).readable.accepted

  pub solve_done : {n : Nine} {b s : Three} → numbers_of matrix ≡ nine_of n → side.row ≡ three_of b
      → ((run : ℕ) → three_of s ≡ solve_column 3 (matrix_of (lower_of n)) (record_of run p) (three_of b))
      → SolvedByValue matrix p side (Ok (record { row = three_of s }))
  solve_done {n} {b} {s} numbers sides solved = record { lent = λ run. record { answer = answers run; sides = at run } }
    where
      A : load (lower (full 3)) (numbers_of matrix) ≡ matrix_of (lower_of n)
      A = ap (load (lower (full 3))) numbers ∙ full_six (nine_of n)

      at : (run : ℕ) → three_of s ≡ each_column 3 1 (solve_column 3 (load (lower (full 3)) (numbers_of matrix)) (record_of run p)) side.row
      at run = rw (A, sides) (solved run ∙ sym (only_column (solve_column 3 (matrix_of (lower_of n)) (record_of run p)) b))
