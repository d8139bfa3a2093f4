-- What a solve answers: as a reader with a slice of columns where that is refused, then by the mark.
use Rattle.std.proofs.Common.{Err, true, cond, List, ◌≡◌, refl, sym, ap, ◌∙◌, ℕ, ◌-◌, Float, eq-eqb, ne_eqb}
use Rattle.answer.specs.declared.Refusal.{Refusal}
use Rattle.answer.specs.declared.Refusal.TheVariants.{ZeroMark}
use Rattle.answer.specs.Answer.{Answer, Done, is_done}
use Rattle.answer.specs.Refusals.{tested}
use Rattle.answer.proofs.Tested.{tested_join, tested_all, tested_then, all_hold}
use Rattle.matrix.specs.declared.Layout.{Layout}
use Rattle.pivots.specs.Words.{mark_at}
use Rattle.lblt_read.specs.Calls.{column_tests}
use Rattle.lblt_read.proofs.Admitted.{Columned, columns_done}
use Rattle.lblt_solve.specs.Solve.{mark_tests, solve_tests}

-- ---- the mark

module _ (n : ℕ) (words : List ℕ) {mark : ℕ} (read : mark ≡ mark_at n words) where
  pub unmarked : mark ≡ 0 → Done ≡ tested (mark_tests n words) Done
  unfolding tested
  unmarked none = rw (eq-eqb (mark_at n words) 0 (sym read ∙ none))

  pub marked : (mark ≡ 0 → ⊥) → Err (ZeroMark (mark - 1)) ≡ tested (mark_tests n words) Done
  unfolding tested
  marked set = rw (ne_eqb (mark_at n words) 0 (λ e. set (read ∙ e)), read)

-- ---- a reader's tests, then the mark

module _ (y : Layout) (columns run : ℕ) (a : List Float) (words : List ℕ) (b : List Float) where
  pub solve_answers
      : {read r : Answer} → read ≡ tested (column_tests y columns run a words b) Done
      → r ≡ cond (is_done read) (tested (mark_tests y.order words) Done) read
      → r ≡ tested (solve_tests y columns run a words b) Done
  solve_answers is then = tested_then (column_tests y columns run a words b) (mark_tests y.order words) is then

  pub solve_refused : {fault : Refusal} → Err fault ≡ tested (column_tests y columns run a words b) Done → Err fault ≡ tested (solve_tests y columns run a words b) Done
  solve_refused is = solve_answers is refl

  pub solver_admitted : {r : Answer} → r ≡ tested (solve_tests y columns run a words b) Done → is_done r ≡ true → Columned y columns a words b
  solver_admitted e done =
      let joined = tested_join (column_tests y columns run a words b) (mark_tests y.order words) Done in
      let all = all_hold (column_tests y columns run a words b) (tested (mark_tests y.order words) Done) (ap is_done (sym joined ∙ sym e) ∙ done) in
      columns_done y columns run a words b (sym (tested_all (column_tests y columns run a words b) Done all.0))
