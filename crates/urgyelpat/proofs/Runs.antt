-- A record that a factor call made with a run number, or that was read from a LAPACK pivot list with one, in a later call whose slices fit, whatever numbers they
-- hold: one that expects this number accepts it (a solve then goes on to the mark), one that expects another answers 13, place 0, and writes nothing. The list of
-- such a record is written, and the number handed back. Assumes nothing.
use Rattle.std.proofs.Common.{Ok, Err, List, ◌≡◌, refl, sym, ap, ◌∙◌, ℕ, ◌+◌, ◌-◌, ◌*◌, ◌≤◌, ℤ, Float, length}
use Rattle.answer.specs.declared.Refusal.TheVariants.{ZeroMark, OtherRun}
use Rattle.answer.specs.Answer.{Answer, Done, is_done}
use Rattle.answer.specs.Number.{number_of}
use Rattle.answer.specs.Refusals.{tested}
use Rattle.answer.proofs.Back.{zero_done}
use Rattle.answer.proofs.Tested.{tested_passed, tested_refused}
use Rattle.matrix.specs.Layouts.{full}
use Rattle.matrix.specs.Matrix.{Matrix}
use Rattle.matrix.specs.Sizes.{Fits}
use Rattle.matrix.specs.Rounded.{plus_zero}
use Rattle.matrix.proofs.Sizes.{full_fits}
use Rattle.pivots.specs.Words.{mark_at, run_at}
use Rattle.pivots.specs.Rule.{Accepted}
use Rattle.pivots_lapack.proofs.Exactly.{read_sound, sound_written}
use Rattle.lblt.proofs.Accepted.{factor_accepted, factor_run}
use Rattle.lblt_read.specs.Calls.{reader_tests, column_tests, LbltFilled}
use Rattle.lblt_read.proofs.Runs.{reader_expected, reader_other, columns_expected, columns_other}
use Rattle.lblt_solve.specs.Solve.{solve_tests}
use Rattle.lblt_solve.proofs.Marked.{unmarked, marked, solve_refused, solve_answers}
use Rattle.lblt_bench.proofs.Listed.{as_solve}
use Rattle.urgyelpat.specs.declared.Determined.{Determined}
use Rattle.urgyelpat.specs.declared.Listed.{Listed}
use Rattle.urgyelpat.specs.Passed.{Passed, determined_of, listed_of}
use Rattle.urgyelpat.specs.Calls.{LbltFactor, LbltSolve, LbltSolveBench, LbltDeterminant, LbltD, LbltLPermuted, PivotsFromLapack, PivotsToLapack}

abbrev pub refused_by_run : ℕ
refused_by_run = 13 * 4096

-- `d` or `l_permuted`, by the matrix M that is filled in
abbrev Filled : ℕ → ℕ → List Float → List ℕ → Matrix → List Float → ℕ → List Float → Type 0
Filled n run m words M f r f' = Passed number_of (λ (answer : Answer). LbltFilled (full n) run m words M f answer f') r

-- a record of this order that keeps the rule, with this run number
pub record Made (n run : ℕ) (words : List ℕ) : Type 0 where
  pub accepted : Accepted n words
  pub stamp : run_at n words ≡ run

-- the number 0 is the answer of the call that made it
pub factor_made : {n run : ℕ} {a a' : List Float} {words words' : List ℕ} → LbltFactor n run a words 0 a' words' → Made n run words'
factor_made c =
    let done = zero_done c.below c.result in
    record { accepted = factor_accepted c.given done; stamp = factor_run c.given done }

pub read_made : {n run : ℕ} {list : List ℤ} {info : ℤ} {words words' : List ℕ} → PivotsFromLapack n run list info words 0 words' → Made n run words'
read_made c =
    let sound = read_sound c.given (zero_done c.below c.result) in
    record { accepted = sound.0.accepted; stamp = sound.1 }

module _ {n run : ℕ} {words' : List ℕ} (made : Made n run words') where
  accepted : Accepted n words'
  accepted = made.accepted

  stamp : run_at n words' ≡ run
  stamp = made.stamp

  pub to_lapack_accepts : {list list' : List ℤ} {v : Listed} → length list ≡ n → PivotsToLapack n words' list v list' → (v.answer ≡ 0) × (v.run ≡ run)
  to_lapack_accepts long c =
      let handed = sound_written accepted long c.given in
      let is = c.result ∙ ap listed_of handed.done in
      (ap (λ (l : Listed). l.answer) is, ap (λ (l : Listed). l.run) is ∙ stamp)

  -- m is the factor that is lent: this one, or any other
  module _ (m : List Float) (square : length m ≡ n * n) where
    fits : Fits (full n) 0 (length m)
    fits = full_fits n (length m) accepted.sized.order square

    -- ---- the number of the record

    pub determinant_accepts : {v : Determined} → LbltDeterminant n run m words' v → v.answer ≡ 0
    determinant_accepts c =
        let done = tested_passed (reader_tests (full n) run m words') (Ok _) (sym (reader_expected (full n) run m words' fits accepted stamp)) in
        ap (λ (d : Determined). d.answer) (c.result ∙ ap determined_of (c.given.answer ∙ done))

    -- f is the matrix to fill
    module _ (f : List Float) (long : length f ≡ n * n) {r : ℕ} {f' : List Float} where
      filled_accepts : {M : Matrix} → Filled n run m words' M f r f' → r ≡ 0
      filled_accepts c =
          c.result ∙ ap number_of (c.given.answer ∙ sym (columns_expected (full n) run m words' fits accepted n accepted.sized.order f long stamp))

      pub d_accepts : LbltD n run m words' f r f' → r ≡ 0
      d_accepts c = filled_accepts c

      pub l_permuted_accepts : LbltLPermuted n run m words' f r f' → r ≡ 0
      l_permuted_accepts c = filled_accepts c

    module _ (columns : ℕ) (few : columns ≤ 1024) (b : List Float) (long : length b ≡ n * columns) where
      solve_read : Done ≡ tested (column_tests (full n) columns run m words' b) Done
      solve_read = columns_expected (full n) run m words' fits accepted columns few b long stamp

      -- a solve goes on to the mark

      unmarked_done : mark_at n words' ≡ 0 → Done ≡ tested (solve_tests (full n) columns run m words' b) Done
      unmarked_done none = solve_answers (full n) columns run m words' b solve_read (unmarked n words' refl none)

      mark_found : (mark_at n words' ≡ 0 → ⊥) → Err (ZeroMark (mark_at n words' - 1)) ≡ tested (solve_tests (full n) columns run m words' b) Done
      mark_found set = solve_answers (full n) columns run m words' b solve_read (marked n words' refl set)

      module _ {r : ℕ} {b' : List Float} (c : LbltSolve n columns run m words' b r b') where
        pub solve_accepts : mark_at n words' ≡ 0 → r ≡ 0
        solve_accepts none = c.result ∙ ap number_of (c.given.answer ∙ sym (unmarked_done none))

        pub solve_finds_mark : (mark_at n words' ≡ 0 → ⊥) → r ≡ 6 * 4096 + (mark_at n words' - 1)
        solve_finds_mark set = c.result ∙ ap number_of (c.given.answer ∙ sym (mark_found set))

      -- whichever columns are the bench's, if any
      module _ (benches : List ℕ) (each : length benches ≡ columns) {bench r : ℕ} {b' : List Float} (c : LbltSolveBench n columns bench run m words' b benches r b') where
        pub bench_accepts : mark_at n words' ≡ 0 → r ≡ 0
        bench_accepts none = c.result ∙ ap number_of (c.given.answer ∙ as_solve (full n) columns run m words' b benches each ∙ sym (unmarked_done none))

        pub bench_finds_mark : (mark_at n words' ≡ 0 → ⊥) → r ≡ 6 * 4096 + (mark_at n words' - 1)
        bench_finds_mark set = c.result ∙ ap number_of (c.given.answer ∙ as_solve (full n) columns run m words' b benches each ∙ sym (mark_found set))

    -- ---- another number

    module _ (expected : ℕ) (differs : expected ≡ run → ⊥) where
      not_stamped : run_at n words' ≡ expected → ⊥
      not_stamped e = differs (sym e ∙ stamp)

      pub determinant_refuses : {v : Determined} → LbltDeterminant n expected m words' v → (v.answer ≡ refused_by_run) × (v.value ≡ plus_zero)
      determinant_refuses c =
          let refused = tested_refused (reader_tests (full n) expected m words') (Ok _) (sym (reader_other (full n) expected m words' fits accepted not_stamped)) in
          let is = c.result ∙ ap determined_of (c.given.answer ∙ refused) in
          (ap (λ (d : Determined). d.answer) is, ap (λ (d : Determined). d.value) is)

      module _ (f : List Float) (long : length f ≡ n * n) {r : ℕ} {f' : List Float} where
        filled_refuses : {M : Matrix} → Filled n expected m words' M f r f' → (r ≡ refused_by_run) × (f' ≡ f)
        filled_refuses c =
            let is : c.below ≡ Err OtherRun = c.given.answer ∙ sym (columns_other (full n) expected m words' fits accepted n accepted.sized.order f long not_stamped) in
            (c.result ∙ ap number_of is, c.given.left.refused (ap is_done is))

        pub d_refuses : LbltD n expected m words' f r f' → (r ≡ refused_by_run) × (f' ≡ f)
        d_refuses c = filled_refuses c

        pub l_permuted_refuses : LbltLPermuted n expected m words' f r f' → (r ≡ refused_by_run) × (f' ≡ f)
        l_permuted_refuses c = filled_refuses c

      -- a marked record too
      module _ (columns : ℕ) (few : columns ≤ 1024) (b : List Float) (long : length b ≡ n * columns) where
        other_run : Err OtherRun ≡ tested (solve_tests (full n) columns expected m words' b) Done
        other_run = solve_refused (full n) columns expected m words' b (columns_other (full n) expected m words' fits accepted columns few b long not_stamped)

        pub solve_refuses : {r : ℕ} {b' : List Float} → LbltSolve n columns expected m words' b r b' → (r ≡ refused_by_run) × (b' ≡ b)
        solve_refuses c =
            let is : c.below ≡ Err OtherRun = c.given.answer ∙ sym other_run in
            (c.result ∙ ap number_of is, c.given.sides ∙ rw is)

        pub bench_refuses : (benches : List ℕ) → length benches ≡ columns → {bench r : ℕ} {b' : List Float} → LbltSolveBench n columns bench expected m words' b benches r b' → (r ≡ refused_by_run) × (b' ≡ b)
        bench_refuses benches each c =
            let is : c.below ≡ Err OtherRun = c.given.answer ∙ as_solve (full n) columns expected m words' b benches each ∙ sym other_run in
            (c.result ∙ ap number_of is, c.given.sides ∙ rw is)
