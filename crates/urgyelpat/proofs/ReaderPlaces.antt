-- The places that the readers of an LBLT factor answer. Assumes nothing.
use Rattle.std.proofs.Common.{Result, Ok, Err, Bool, true, false, List, [], ◌∷◌, ⊎_elim, ◌≡◌, refl, sym, subst, ◌∙◌, ℕ, ◌-◌, ◌*◌, ◌≤◌, arith, leb, eqb, length, Float}
use borrow.Author.Tests.{eqb-false}
use Rattle.answer.specs.declared.Refusal.{Refusal}
use Rattle.answer.specs.declared.Refusal.TheVariants.{OutOfRange, SliceLength, BadRecord, ZeroMark, OtherRun}
use Rattle.answer.specs.Answer.{Answer, Done, is_done}
use Rattle.answer.specs.Refusals.{◌otherwise◌, tested}
use Rattle.answer.proofs.Done.{done_is}
use Rattle.answer.proofs.Tests.{eq_or_ne}
use Rattle.answer.proofs.Tested.{tested_join, tested_all, tested_fixed, all_hold}
use Rattle.answer.proofs.Within.{Within, within_none, within_test, within_tested}
use Rattle.matrix.specs.declared.Layout.{Layout}
use Rattle.matrix.specs.Matrix.{Matrix}
use Rattle.matrix.specs.Sizes.{size_tests}
use Rattle.matrix.proofs.Sizes.{sizes_within}
use Rattle.pivots.specs.Words.{mark_at, run_at, words_of}
use Rattle.pivots.specs.Rule.{record_tests}
use Rattle.pivots.proofs.Boundaries.{mark_row}
use Rattle.lblt_read.specs.Calls.{word_tests, reader_tests, side_tests, column_tests, LbltDetermined, LbltFilled}
use Rattle.lblt_read.proofs.Admitted.{columns_done}
use Rattle.lblt_solve.specs.Solve.{mark_tests, solve_tests, LbltSolved}
use Rattle.lblt_bench.specs.Bench.{BenchSolved}
use Rattle.lblt_bench.proofs.Listed.{as_solve, list_refused}
use Rattle.lblt_tray.specs.Tray.{tray_tests, TraySolved}
use Rattle.urgyelpat.proofs.RulePlaces.{rule_within}

-- the record's tests answer a row, or the order; r comes after
record_within : {A : Type 0} (n run : ℕ) (words : List ℕ) (r : Result A Refusal) → Within n r → Within n (tested (word_tests n run words) r)
unfolding tested
record_within n run words r within =
    within_test n (eqb (length words) (words_of n)) _ (Err SliceLength)
    (λ e.
    subst (Within n) (sym (tested_join (record_tests n words) ((eqb (run_at n words) run otherwise OtherRun) ∷ []) r))
    (rule_within BadRecord (λ place. refl) n words _ (within_test n (eqb (run_at n words) run) r (Err OtherRun) (λ same. within) (λ other. within_none n))))
    (λ e. within_none n)

reader_within : (y : Layout) (run : ℕ) (a : List Float) (words : List ℕ) (x : Float) → Within 1024 (tested (reader_tests y run a words) (Ok x))
reader_within y run a words x =
    subst (Within 1024) (sym (tested_join (size_tests y 0 (length a)) (word_tests y.order run words) (Ok x)))
    (sizes_within y 0 (length a) (tested (word_tests y.order run words) (Ok x)) (record_within y.order run words (Ok x) (within_none y.order)))

module _ (y : Layout) (columns run : ℕ) (a : List Float) (words : List ℕ) (b : List Float) where
  -- r comes after the tests of size
  sides_within : (r : Answer) → Within y.order r → Within 1024 (tested (side_tests y columns a b) r)
  unfolding tested
  sides_within r within =
      within_test 1024 (leb columns 1024) _ (Err OutOfRange)
      (λ e.
      subst (Within 1024) (sym (tested_join (size_tests y 0 (length a)) ((eqb (length b) (y.order * columns) otherwise SliceLength) ∷ []) r))
      (sizes_within y 0 (length a) _ (within_test y.order (eqb (length b) (y.order * columns)) r (Err SliceLength) (λ e. within) (λ e. within_none y.order))))
      (λ e. within_none 1024)

  columns_within : Within 1024 (tested (column_tests y columns run a words b) Done)
  columns_within =
      subst (Within 1024) (sym (tested_join (side_tests y columns a b) (word_tests y.order run words) Done))
      (sides_within (tested (word_tests y.order run words) Done) (record_within y.order run words Done (within_none y.order)))

  mark_within : is_done (tested (column_tests y columns run a words b) Done) ≡ true → Within 1024 (tested (mark_tests y.order words) Done)
  unfolding tested
  mark_within done =
      within_test 1024 (eqb (mark_at y.order words) 0) Done (Err (ZeroMark (mark_at y.order words - 1))) (λ e. within_none 1024)
      (λ e.
      let known = columns_done y columns run a words b (sym (done_is _ done)) in
      let row : mark_at y.order words ≤ y.order = (mark_row known.readable.accepted (eqb-false _ _ e)).passed in
      let small : y.order ≤ 1024 = known.readable.accepted.sized.order in
      omega (arith, row, small))

  solve_within : Within 1024 (tested (solve_tests y columns run a words b) Done)
  solve_within = subst (Within 1024) (sym (tested_join (column_tests y columns run a words b) (mark_tests y.order words) Done)) (by (is_done (tested (column_tests y columns run a words b) Done)) refl)
    where
      by : (t : Bool) → is_done (tested (column_tests y columns run a words b) Done) ≡ t → Within 1024 (tested (column_tests y columns run a words b) (tested (mark_tests y.order words) Done))
      by true e =
          subst (Within 1024)
          (sym (tested_all (column_tests y columns run a words b) (tested (mark_tests y.order words) Done) (all_hold (column_tests y columns run a words b) Done e).0))
          (mark_within e)
      by false e = subst (Within 1024) (sym (tested_fixed (column_tests y columns run a words b) (tested (mark_tests y.order words) Done) e)) columns_within

pub solved_within : {y : Layout} {columns run : ℕ} {a : List Float} {words : List ℕ} {b b' : List Float} {r : Answer} → LbltSolved y columns run a words b r b' → Within 1024 r
solved_within {y} {columns} {run} {a} {words} {b} x = subst (Within 1024) (sym x.answer) (solve_within y columns run a words b)

-- a list that does not fit is refused by its length; with one that does the answer is that of a solve
pub bench_within
    : {y : Layout} {columns bench run : ℕ} {a : List Float} {words : List ℕ} {b b' : List Float} {benches : List ℕ} {r : Answer}
    → BenchSolved y columns bench run a words b benches r b' → Within 1024 r
bench_within {y} {columns} {bench} {run} {a} {words} {b} {benches = benches} x =
    ⊎_elim
    (λ (fits : length benches ≡ columns). subst (Within 1024) (sym (x.answer ∙ as_solve y columns run a words b benches fits)) (solve_within y columns run a words b))
    (λ (other : length benches ≡ columns → ⊥). subst (Within 1024) (sym (x.answer ∙ list_refused y columns run a words b benches other)) (sides_within y columns run a words b (Err SliceLength) (within_none y.order)))
    (eq_or_ne (length benches) columns)

-- a tray's own refusals name no place
pub tray_within
    : {n count : ℕ} {a : List Float} {words : List ℕ} {b : List Float} {runs answers : List ℕ} {r : Answer} {a' : List Float} {words' : List ℕ} {b' : List Float} {answers' : List ℕ}
    → TraySolved n count a words b runs answers r a' words' b' answers' → Within 1024 r
tray_within {n} {count} {a} {words} {b} {runs} {answers} x =
    let none : 0 ≤ 1024 = omega arith in
    subst (Within 1024) (sym x.answer)
    (within_tested 1024 (tray_tests n count a words b runs answers) Done (none, (none, (none, (none, (none, (none, (none, tt))))))) (λ all. none))

pub determined_within : {y : Layout} {run : ℕ} {a : List Float} {words : List ℕ} {r : Result Float Refusal} → LbltDetermined y run a words r → Within 1024 r
determined_within {y} {run} {a} {words} x = subst (Within 1024) (sym x.answer) (reader_within y run a words _)

pub filled_within : {y : Layout} {run : ℕ} {a : List Float} {words : List ℕ} {M : Matrix} {l l' : List Float} {r : Answer} → LbltFilled y run a words M l r l' → Within 1024 r
filled_within {y} {run} {a} {words} {l = l} x = subst (Within 1024) (sym x.answer) (columns_within y y.order run a words l)
