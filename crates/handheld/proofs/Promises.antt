-- What the promises by value tell a reader: they fix all that comes back, and it is what the lent calls give. Assumes nothing.
--   factor_unique  solve_unique       two results that meet a promise are equal
--   factor_as_lent solve_as_lent      beside any lent call on the same numbers
--   upper_stays                       above the diagonal all is as it was
--   pivots_accepted  own_pivots_law       the pivots that the factor gives are accepted: a solve with them is done, or tells the mark
--   solve_answer_law                      the pivots' rule, then the mark: 5, then 6
use Rattle.std.proofs.Common.{◌≡◌, refl, sym, ◌∙◌, ap, cond, true≢false, List, [], ◌∷◌, ◌++◌, ℕ, ◌+◌, ◌-◌, ◌*◌, ◌<◌, arith, eqb, length, get_or, take, length-append, Float, Result, Ok, Err}
use mathlib.Core.List.{append_cancel_left}
use lib.Seq.{take-append_seam}
use lib.Ieee.{nan}
use Rattle.answer.specs.declared.Refusal.{Refusal}
use Rattle.answer.specs.declared.Refusal.TheVariants.{ZeroMark}
use Rattle.answer.specs.Answer.{Answer, Done, answer_of, is_done}
use Rattle.answer.specs.Refusals.{tested}
use Rattle.matrix.specs.Layouts.{full}
use Rattle.matrix.proofs.Places.{free_at}
use Rattle.pivots.specs.Words.{words_of}
use Rattle.pivots.specs.Rule.{checked, Accepted}
use Rattle.lblt.specs.Factor as lblt
use Rattle.lblt.proofs.Done.{factored_unique}
use Rattle.lblt.proofs.Accepted.{factor_accepted}
use Rattle.lblt_solve.specs.Solve.{mark_tests, LbltSolved}
use Rattle.lblt_solve.proofs.Once.{solved_once}
use Rattle.handheld.specs.declared.Column3.{Column3}
use Rattle.handheld.specs.declared.Pivots3.{Pivots3}
use Rattle.handheld.specs.declared.Factored.{Factored}
use Rattle.handheld.specs.Shapes.{numbers_of, Threes, Square, Paired, record_of}
use Rattle.handheld.specs.Promise.{FactoredByValue, left_by, SolvedByValue}
use Rattle.handheld.specs.inner.Steps.{blank}
use Rattle.handheld.proofs.Listed.{three_listed}
use Rattle.handheld.proofs.Answers.{check_answers}

-- ---- beside any lent call

-- a lent call with the number `run` was answered and left what r has
pub record AsLent (r : Factored) (run : ℕ) (answer : Answer) (a : List Float) (words : List ℕ) : Type 0 where
  pub done : answer ≡ Done
  pub matrix : a ≡ numbers_of r.matrix
  pub pivots : words ≡ record_of run r.pivots

module _ {given : List Column3} {r : Factored} (f : FactoredByValue given r) where
  pub factor_as_lent : {run : ℕ} {words words' : List ℕ} {answer : Answer} {a : List Float}
      → length words ≡ words_of 3 → lblt.Factored (full 3) run (numbers_of given) words answer a words' → AsLent r run answer a words'
  factor_as_lent {run} {words} long g = let same = factored_unique g (f.lent run words long) in record { done = same.answer; matrix = same.matrix; pivots = same.pivots }

  -- entry (i, j), i < j
  pub upper_stays : (i j : ℕ) → i < j → j < 3 → get_or (numbers_of r.matrix) (i + j * 3) nan ≡ get_or (numbers_of given) (i + j * 3) nan
  upper_stays i j above inside = ((f.lent 0 blank refl).left.done refl).matrix.kept (i + j * 3) (free_at 3 3 i j (omega arith) (omega arith) (λ under low. omega arith))

  pub pivots_accepted : (run : ℕ) → Accepted 3 (record_of run r.pivots)
  pivots_accepted run = factor_accepted (f.lent run blank refl) refl

module _ {given : List Column3} {p : Pivots3} {side : Column3} {r : Result Column3 Refusal} (s : SolvedByValue given p side r) where
  pub solve_as_lent : {run : ℕ} {answer : Answer} {b : List Float} → LbltSolved (full 3) 1 run (numbers_of given) (record_of run p) side.row answer b
      → (answer ≡ answer_of r) × (b ≡ (left_by side r).row)
  solve_as_lent {run} g = solved_once g (s.lent run)

-- ---- the promises fix all that comes back

-- columns of three, by their numbers
same_columns : (l m : List Column3) → length l ≡ length m → Threes l → Threes m → numbers_of l ≡ numbers_of m → l ≡ m
unfolding numbers_of Threes
same_columns [] [] long three three' same = refl
same_columns [] (d ∷ m) long three three' same = absurd (omega arith)
same_columns (c ∷ l) [] long three three' same = absurd (omega arith)
same_columns (c ∷ l) (d ∷ m) long three three' same =
    let first : c.row ≡ d.row =
    sym (take-append_seam c.row (numbers_of l)) ∙ ap (take (length c.row)) same
    ∙ ap (λ (k : ℕ). take k (d.row ++ numbers_of m)) (three.0 ∙ sym three'.0) ∙ take-append_seam d.row (numbers_of m) in
    let rest : numbers_of l ≡ numbers_of m = append_cancel_left d.row (numbers_of l) (numbers_of m) (ap (λ (row : List Float). row ++ numbers_of l) (sym first) ∙ same) in
    ap (λ (row : List Float). record { row = row } ∷ l) first ∙ ap (λ (columns : List Column3). d ∷ columns) (same_columns l m (omega arith) three.1 three'.1 rest)

-- pivots, by their record
same_pivots : (p q : Pivots3) → Paired p → Paired q → record_of 0 p ≡ record_of 0 q → p ≡ q
unfolding record_of
same_pivots p q three three' same =
    let at : (k : ℕ) → get_or (record_of 0 p) k 0 ≡ get_or (record_of 0 q) k 0 = λ k. ap (λ (words : List ℕ). get_or words k 0) same in
    let index : p.index ≡ q.index = three_listed p.index 0 three.indexes refl ∙ rw (at 0, at 2, at 4) (sym (three_listed q.index 0 three'.indexes refl)) in
    let size : p.size ≡ q.size = three_listed p.size 0 three.sizes refl ∙ rw (at 1, at 3, at 5) (sym (three_listed q.size 0 three'.sizes refl)) in
    rw (index, size, at 6)

pub factor_unique : {given : List Column3} {r r' : Factored} → FactoredByValue given r → FactoredByValue given r' → r ≡ r'
factor_unique {r = r} {r'} f g =
    let same = factored_unique (f.lent 0 blank refl) (g.lent 0 blank refl) in
    let matrix : r.matrix ≡ r'.matrix = same_columns r.matrix r'.matrix (f.square.three ∙ sym g.square.three) f.square.rows g.square.rows same.matrix in
    let pivots : r.pivots ≡ r'.pivots = same_pivots r.pivots r'.pivots f.paired g.paired same.pivots in
    rw (matrix, pivots)

pub solve_unique : {given : List Column3} {p : Pivots3} {side : Column3} {r r' : Result Column3 Refusal} → SolvedByValue given p side r → SolvedByValue given p side r' → r ≡ r'
solve_unique {side = side} {r} {r'} s t = let same = solved_once (s.lent 0) (t.lent 0) in by r r' same.0 same.1
  where
    by : (r r' : Result Column3 Refusal) → answer_of r ≡ answer_of r' → (left_by side r).row ≡ (left_by side r').row → r ≡ r'
    by (Ok x) (Ok x') answer row = ap (λ (row : List Float). Ok (record { row = row })) row
    by (Ok x) (Err e) answer row = absurd (true≢false (ap is_done answer))
    by (Err e) (Ok x) answer row = absurd (true≢false (sym (ap is_done answer)))
    by (Err e) (Err e') answer row = ap again answer
      where
        again : Answer → Result Column3 Refusal
        again (Ok x) = Err e
        again (Err found) = Err found

-- ---- what a solve answers

square_nine : (given : List Column3) → Square given → length (numbers_of given) ≡ 9
unfolding numbers_of Threes
square_nine (b ∷ c ∷ d ∷ []) s =
    length-append b.row (c.row ++ (d.row ++ [])) ∙ rw (s.rows.0, length-append c.row (d.row ++ []), s.rows.1.0, length-append d.row [], s.rows.1.1.0)
square_nine [] s = absurd (omega (arith, s.three))
square_nine (b ∷ []) s = absurd (omega (arith, s.three))
square_nine (b ∷ c ∷ []) s = absurd (omega (arith, s.three))
square_nine (b ∷ c ∷ d ∷ e ∷ l) s = absurd (omega (arith, s.three))

module _ {given : List Column3} {p : Pivots3} {side : Column3} {r : Result Column3 Refusal} (square : Square given) (three : length side.row ≡ 3) (s : SolvedByValue given p side r) where
  -- the pivots' rule, then the mark
  pub solve_answer_law : answer_of r ≡ cond (is_done (checked 3 (record_of 0 p))) (tested (mark_tests 3 (record_of 0 p)) Done) (checked 3 (record_of 0 p))
  solve_answer_law = (s.lent 0).answer ∙ sym (check_answers (numbers_of given) side.row (square_nine given square) three p 0 (checked 3 (record_of 0 p)) refl)

-- with the pivots that a factor gives: done, or the mark
pub own_pivots_law : {before given : List Column3} {f : Factored} {side : Column3} {r : Result Column3 Refusal} → FactoredByValue before f
    → Square given → length side.row ≡ 3 → SolvedByValue given f.pivots side r → answer_of r ≡ cond (eqb f.pivots.mark 0) Done (Err (ZeroMark (f.pivots.mark - 1)))
unfolding tested record_of
own_pivots_law {f = f} factored square three s = solve_answer_law square three s ∙ rw (pivots_accepted factored 0).done
