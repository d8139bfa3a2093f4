-- Where the slices fit and the record is accepted, its run number decides: with the expected one all tests hold, with another the answer is `OtherRun`.
-- Assumes nothing.
use Rattle.std.proofs.Common.{Err, List, ◌≡◌, sym, ◌∙◌, ℕ, ◌*◌, ◌≤◌, Float, length}
use Rattle.answer.specs.declared.Refusal.TheVariants.{OtherRun}
use Rattle.answer.specs.Answer.{Done}
use Rattle.answer.specs.Refusals.{tested}
use Rattle.answer.proofs.Done.{done_is}
use Rattle.answer.proofs.Tested.{joined_passed}
use Rattle.matrix.specs.declared.Layout.{Layout}
use Rattle.matrix.specs.Sizes.{Fits}
use Rattle.matrix.proofs.Sizes.{fits_pass, fits_then}
use Rattle.pivots.specs.Words.{run_at}
use Rattle.pivots.specs.Rule.{checked, Accepted}
use Rattle.lblt_read.specs.Calls.{word_tests, reader_tests, side_tests, column_tests}
use Rattle.lblt_read.proofs.Admitted.{record_other, record_expected, sides_right}

module _ (y : Layout) (run : ℕ) (a : List Float) (words : List ℕ) (fits : Fits y 0 (length a)) (accepted : Accepted y.order words) where
  rule : Done ≡ checked y.order words
  rule = sym (done_is (checked y.order words) accepted.done)

  expected : run_at y.order words ≡ run → Done ≡ tested (word_tests y.order run words) Done
  expected = record_expected y.order run words accepted.sized.total rule

  other : (run_at y.order words ≡ run → ⊥) → Err OtherRun ≡ tested (word_tests y.order run words) Done
  other = record_other y.order run words accepted.sized.total rule

  sized : tested (reader_tests y run a words) Done ≡ tested (word_tests y.order run words) Done
  sized = fits_then y 0 (length a) fits (word_tests y.order run words) Done

  pub reader_expected : run_at y.order words ≡ run → Done ≡ tested (reader_tests y run a words) Done
  reader_expected same = expected same ∙ sym sized

  pub reader_other : (run_at y.order words ≡ run → ⊥) → Err OtherRun ≡ tested (reader_tests y run a words) Done
  reader_other differs = other differs ∙ sym sized

  -- ---- with a slice b of columns besides

  module _ (columns : ℕ) (few : columns ≤ 1024) (b : List Float) (long : length b ≡ y.order * columns) where
    sides : tested (column_tests y columns run a words b) Done ≡ tested (word_tests y.order run words) Done
    sides =
        joined_passed (side_tests y columns a b) (word_tests y.order run words) Done
        (sym (sides_right y columns few a b (sym (fits_pass y 0 (length a) fits Done)) long))

    pub columns_expected : run_at y.order words ≡ run → Done ≡ tested (column_tests y columns run a words b) Done
    columns_expected same = expected same ∙ sym sides

    pub columns_other : (run_at y.order words ≡ run → ⊥) → Err OtherRun ≡ tested (column_tests y columns run a words b) Done
    columns_other differs = other differs ∙ sym sides
