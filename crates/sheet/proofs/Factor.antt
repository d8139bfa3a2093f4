-- The factor call on a square of at most 64 rows is done, its determinant is taken, and the page shows both.
use Rattle.std.specs.Prelude.{Result, Ok}
use mathlib.Core.Path.{◌≡◌, sym, ap, ◌∙◌}
use mathlib.Core.Bool.{true}
use mathlib.Core.List.{List}
use Prim.Native.Nat.{ℕ}
use native.Mathlib.Omega.{arith}
use lib.Ieee.{Float, binary64, to_bits}
use lib.ListN.{length}
use Rattle.answer.specs.Answer.{Done, is_done}
use Rattle.answer.specs.declared.Refusal.{Refusal}
use Rattle.answer.specs.Refusals.{tested}
use Rattle.answer.proofs.Tested.{tested_passed}
use Rattle.matrix.specs.Matrix.{Matrix}
use Rattle.matrix.specs.Grid.{load}
use Rattle.matrix.specs.Layouts.{full, start_of, lower}
use Rattle.matrix.proofs.Places.{lower_at}
use Rattle.matrix.proofs.Sizes.{full_fits}
use Rattle.pivots.specs.Words.{run_at, Sized}
use Rattle.pivots.specs.Rule.{checked}
use Rattle.lblt.specs.Factor.{factor_tests, final_state, recorded, Stored}
use Rattle.lblt.proofs.Done.{all_right}
use Rattle.lblt.proofs.Accepted.{accepted, recorded_run}
use Rattle.lblt_read.specs.Calls.{reader_tests, LbltDetermined}
use Rattle.lblt_read.specs.Diagonal.{determinant_of}
use Rattle.lblt_read.proofs.Runs.{reader_expected}
use Rattle.sheet_text.specs.Place.{places}
use Rattle.sheet_text.proofs.EachPlace.{each_same, each_place}
use Rattle.sheet_page.specs.Page.{matrix_in, bits_at, lower_bits, page_lines, page_of}
use Rattle.sheet.specs.Respond.{sheet_run, page_from}
use Rattle.sheet.specs.inner.Parts.{Square}

-- the factor's entries are those that stand in the slice
bits_same : (n : ℕ) (a : List Float) (F : Matrix) → load (lower (full n)) a ≡ F → lower_bits n (matrix_in n a) ≡ lower_bits n F
unfolding lower_bits start_of
bits_same n a F e =
    each_same (bits_at (matrix_in n a)) (bits_at F) (places n)
    (each_place (λ p. bits_at (matrix_in n a) p ≡ bits_at F p) n
    (λ r c h k. ap (to_bits binary64) (sym (lower_at (full n) a r c h k) ∙ ap (λ (M : Matrix). M r c) e)))

page_same : (n : ℕ) (words : List ℕ) (a : List Float) (F : Matrix) (det : Float) → load (lower (full n)) a ≡ F → page_of n words (matrix_in n a) det ≡ page_of n words F det
unfolding page_of page_lines
page_same n words a F det e = rw (bits_same n a F e)

module _ (n : ℕ) (a : List Float) (words : List ℕ) (q : Square n a words) where
  pub answer_done : tested (factor_tests (full n) a words) Done ≡ Done
  answer_done = all_right (full n) a words (full_fits n (length a) (omega (arith, q.small)) q.long) q.sized

  words_sized : Sized n words
  words_sized = record { order = omega (arith, q.small); total = q.sized }

  module _ (a' : List Float) (words' : List ℕ) (s : Stored (full n) sheet_run a words a' words') (long : length a' ≡ length a) (sized : length words' ≡ length words) where
    record_accepted : is_done (checked n words') ≡ true
    record_accepted = ap (λ (w : List ℕ). is_done (checked n w)) s.pivots ∙ (accepted n (load (lower (full n)) a) words words_sized sheet_run).done

    reader_done : tested (reader_tests (full n) sheet_run a' words') Done ≡ Done
    reader_done =
        sym (reader_expected (full n) sheet_run a' words' (full_fits n (length a') (omega (arith, q.small)) (long ∙ q.long))
        (record { sized = record { order = omega (arith, q.small); total = sized ∙ q.sized }; done = record_accepted })
        (ap (run_at n) s.pivots ∙ recorded_run n (load (lower (full n)) a) words words_sized sheet_run))

    pub determined : (r : Result Float Refusal) → LbltDetermined (full n) sheet_run a' words' r → r ≡ Ok (determinant_of n (load (lower (full n)) a') words')
    determined r d = d.answer ∙ tested_passed (reader_tests (full n) sheet_run a' words') (Ok (determinant_of n (load (lower (full n)) a') words')) reader_done

    determinant_is : (v : Float) → LbltDetermined (full n) sheet_run a' words' (Ok v) → v ≡ determinant_of n (final_state n (load (lower (full n)) a) words).matrix (recorded n sheet_run (load (lower (full n)) a) words)
    determinant_is v d =
        let here : Ok v ≡ Ok (determinant_of n (load (lower (full n)) a') words') = determined (Ok v) d in
        let value : v ≡ determinant_of n (load (lower (full n)) a') words' = cc in
        value
        ∙ ap (λ (M : Matrix). determinant_of n M words') s.matrix.cells
        ∙ ap (determinant_of n (final_state n (load (lower (full n)) a) words).matrix) s.pivots

    -- the page that is written is that of the matrix that was given
    pub page_is : (v : Float) → LbltDetermined (full n) sheet_run a' words' (Ok v) → page_of n words' (matrix_in n a') v ≡ page_from n (load (lower (full n)) a) words
    unfolding page_from
    page_is v d =
        page_same n words' a' (final_state n (load (lower (full n)) a) words).matrix v s.matrix.cells
        ∙ ap (λ (w : List ℕ). page_of n w (final_state n (load (lower (full n)) a) words).matrix v) s.pivots
        ∙ ap (page_of n (recorded n sheet_run (load (lower (full n)) a) words) (final_state n (load (lower (full n)) a) words).matrix) (determinant_is v d)
