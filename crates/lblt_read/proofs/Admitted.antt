-- What the tests of a reader answer, and what they tell where it goes on.
--     record_short … columns_many     a law for each way out
--     words_accepted … columns_done   what is known where all tests hold
--     words_refuse … columns_refuse   no test answers that all is done
--     sides_refused … fills           what `d` and `l_permuted` answer and leave
use Rattle.std.proofs.Common.{◌≡◌, true, false, List, [], ◌∷◌, ◌++◌, ℕ, ◌*◌, ◌≤◌, ◌<◌, eqb, Float, length, Err, refl, sym, ap, ◌∙◌, arith, le-leb, leb-true, eq-eqb, ne_eqb, eqb-true}
use Rattle.std.proofs.lemmas.Bool.{lt-leb}
use Rattle.answer.specs.declared.Refusal.{Refusal}
use Rattle.answer.specs.declared.Refusal.TheVariants.{OutOfRange, SliceLength, OtherRun}
use Rattle.answer.specs.Answer.{Answer, Done, is_done}
use Rattle.answer.specs.Refusals.{Test, ◌otherwise◌, tested}
use Rattle.answer.proofs.Done.{done_is}
use Rattle.answer.proofs.Tested.{Refusals, tests_refuse, tested_all, tested_join, tested_passed, tested_refused, joined_passed, joined_refused, all_hold, leaving_done, leaving_refused}
use Rattle.matrix.specs.declared.Layout.{Layout}
use Rattle.matrix.specs.Matrix.{Matrix}
use Rattle.matrix.specs.Layouts.{Fills}
use Rattle.matrix.specs.Sizes.{size_tests, Fits}
use Rattle.matrix.proofs.Sizes.{hold_fits, passed_fits, fits_then, done_fits, laid_fits}
use Rattle.pivots.specs.Words.{words_of, run_at}
use Rattle.pivots.specs.Rule.{record_tests, checked, Accepted}
use Rattle.lblt_solve_columns.specs.inner.Engine.{Readable}
use Rattle.lblt_read.specs.inner.Engine.{Squared}
use Rattle.lblt_read.specs.Calls.{word_tests, reader_tests, side_tests, column_tests, LbltFilled}

-- a test that holds, and one that fails
test_holds : (t : Test) (tests : List Test) (r : Answer) → t.holds ≡ true → tested (t ∷ tests) r ≡ tested tests r
unfolding tested
test_holds t tests r e = rw e

test_fails : (t : Test) (tests : List Test) (r : Answer) → t.holds ≡ false → tested (t ∷ tests) r ≡ Err t.refusal
unfolding tested
test_fails t tests r e = rw e

-- ---- the record

module _ (n run : ℕ) (words : List ℕ) where
  of_run : Test
  of_run = eqb (run_at n words) run otherwise OtherRun

  pub record_short : (length words ≡ words_of n → ⊥) → Err SliceLength ≡ tested (word_tests n run words) Done
  record_short h = sym (test_fails _ _ _ (ne_eqb (length words) (words_of n) h))

  module _ (long : length words ≡ words_of n) where
    record_long : tested (word_tests n run words) Done ≡ tested (record_tests n words) (tested (of_run ∷ []) Done)
    unfolding of_run
    record_long = test_holds _ _ _ (eq-eqb (length words) (words_of n) long) ∙ tested_join (record_tests n words) (of_run ∷ []) Done

    pub record_broken : {fault : Refusal} → Err fault ≡ checked n words → Err fault ≡ tested (word_tests n run words) Done
    unfolding checked
    record_broken refused = sym (record_long ∙ tested_refused (record_tests n words) (tested (of_run ∷ []) Done) (sym refused))

    module _ (rule : Done ≡ checked n words) where
      record_sound : tested (word_tests n run words) Done ≡ tested (of_run ∷ []) Done
      unfolding checked
      record_sound = record_long ∙ tested_passed (record_tests n words) (tested (of_run ∷ []) Done) (sym rule)

      pub record_other : (run_at n words ≡ run → ⊥) → Err OtherRun ≡ tested (word_tests n run words) Done
      unfolding of_run
      record_other other = sym (record_sound ∙ test_fails _ _ _ (ne_eqb (run_at n words) run other))

      pub record_expected : run_at n words ≡ run → Done ≡ tested (word_tests n run words) Done
      unfolding of_run
      record_expected same = sym (record_sound ∙ tested_all (of_run ∷ []) Done (eq-eqb (run_at n words) run same, tt))

-- ---- the sizes, then the columns

pub columns_many : (y : Layout) (columns : ℕ) (a b : List Float) → 1024 < columns → Err OutOfRange ≡ tested (side_tests y columns a b) Done
columns_many y columns a b h = sym (test_fails _ _ _ (lt-leb columns 1024 h))

module _ (y : Layout) (columns : ℕ) (few : columns ≤ 1024) (a b : List Float) where
  sides : Test
  sides = eqb (length b) (y.order * columns) otherwise SliceLength

  few_first : tested (side_tests y columns a b) Done ≡ tested (size_tests y 0 (length a) ++ (sides ∷ [])) Done
  unfolding sides
  few_first = test_holds _ _ _ (le-leb columns 1024 few)

  pub matrix_wrong : {fault : Refusal} → Err fault ≡ tested (size_tests y 0 (length a)) Done → Err fault ≡ tested (side_tests y columns a b) Done
  matrix_wrong refused = sym (few_first ∙ joined_refused (size_tests y 0 (length a)) (sides ∷ []) Done (sym refused))

  module _ (sized : Done ≡ tested (size_tests y 0 (length a)) Done) where
    sized_first : tested (side_tests y columns a b) Done ≡ tested (sides ∷ []) Done
    sized_first = few_first ∙ joined_passed (size_tests y 0 (length a)) (sides ∷ []) Done (sym sized)

    pub sides_wrong : (length b ≡ y.order * columns → ⊥) → Err SliceLength ≡ tested (side_tests y columns a b) Done
    unfolding sides
    sides_wrong h = sym (sized_first ∙ test_fails _ _ _ (ne_eqb (length b) (y.order * columns) h))

    pub sides_right : length b ≡ y.order * columns → Done ≡ tested (side_tests y columns a b) Done
    unfolding sides
    sides_right h = sym (sized_first ∙ tested_all (sides ∷ []) Done (eq-eqb (length b) (y.order * columns) h, tt))

-- ---- what is known where all tests hold

pub words_accepted : (n run : ℕ) (words : List ℕ) → n ≤ 1024 → Done ≡ tested (word_tests n run words) Done → Accepted n words
unfolding checked
words_accepted n run words small passed =
    let h = (all_hold (word_tests n run words) Done (ap is_done (sym passed))).0 in
    record {
      sized = record { order = small; total = eqb-true (length words) (words_of n) h.0 };
      done = ap is_done (tested_all (record_tests n words) Done (h.1.0, (h.1.1.0, tt)));
    }

small_order : {y : Layout} {len : ℕ} → Fits y 0 len → y.order ≤ 1024
small_order f = omega (arith, f.roomy.ordered, f.roomy.small)

pub order_small : (y : Layout) (a : List Float) → Done ≡ tested (size_tests y 0 (length a)) Done → y.order ≤ 1024
order_small y a passed = small_order (passed_fits y 0 (length a) (sym passed))

pub read_done : (y : Layout) (run : ℕ) (a : List Float) (words : List ℕ) → Done ≡ tested (reader_tests y run a words) Done → Readable y a words
read_done y run a words passed =
    let sizes = size_tests y 0 (length a) in
    let more = word_tests y.order run words in
    let fits = done_fits y 0 (length a) (tested more Done) (ap is_done (sym (passed ∙ tested_join sizes more Done))) in
    record { factor = laid_fits fits; accepted = words_accepted y.order run words (small_order fits) (passed ∙ fits_then y 0 (length a) fits more Done) }

record Sided (y : Layout) (columns : ℕ) (a b : List Float) : Type 0 where
  pub few : columns ≤ 1024
  pub fits : Fits y 0 (length a)
  pub long : length b ≡ y.order * columns

sides_done : (y : Layout) (columns : ℕ) (a b : List Float) → Done ≡ tested (side_tests y columns a b) Done → Sided y columns a b
sides_done y columns a b passed =
    let h = (all_hold (side_tests y columns a b) Done (ap is_done (sym passed))).0 in
    record {
      few = leb-true columns 1024 h.0;
      fits = hold_fits y 0 (length a) (h.1.0, (h.1.1.0, (h.1.1.1.0, (h.1.1.1.1.0, (h.1.1.1.1.1.0, (h.1.1.1.1.1.1.0, tt))))));
      long = eqb-true (length b) (y.order * columns) h.1.1.1.1.1.1.1.0;
    }

pub sides_small : (y : Layout) (columns : ℕ) (a b : List Float) → Done ≡ tested (side_tests y columns a b) Done → y.order ≤ 1024
sides_small y columns a b passed = small_order (sides_done y columns a b passed).fits

pub record Columned (y : Layout) (columns : ℕ) (a : List Float) (words : List ℕ) (b : List Float) : Type 0 where
  pub few : columns ≤ 1024
  pub readable : Readable y a words
  pub long : length b ≡ y.order * columns

-- where the sizes are passed, the record answers
pub columns_answers
    : (y : Layout) (columns run : ℕ) (a : List Float) (words : List ℕ) (b : List Float)
    → Done ≡ tested (side_tests y columns a b) Done → {r : Answer} → r ≡ tested (word_tests y.order run words) Done → r ≡ tested (column_tests y columns run a words b) Done
columns_answers y columns run a words b sized is = is ∙ sym (joined_passed (side_tests y columns a b) (word_tests y.order run words) Done (sym sized))

pub columns_done
    : (y : Layout) (columns run : ℕ) (a : List Float) (words : List ℕ) (b : List Float)
    → Done ≡ tested (column_tests y columns run a words b) Done
    → Columned y columns a words b
columns_done y columns run a words b passed =
    let sides = side_tests y columns a b in
    let more = word_tests y.order run words in
    let h = all_hold sides (tested more Done) (ap is_done (sym (passed ∙ tested_join sides more Done))) in
    let known = sides_done y columns a b (sym (tested_all sides Done h.0)) in
    record {
      few = known.few;
      readable = record { factor = laid_fits known.fits; accepted = words_accepted y.order run words (small_order known.fits) (sym (done_is (tested more Done) h.1)) };
      long = known.long;
    }

-- ---- no test of a reader answers that all is done

pub words_refuse : (n run : ℕ) (words : List ℕ) → Refusals (word_tests n run words)
words_refuse n run words = tests_refuse (word_tests n run words)

pub sides_refuse : (y : Layout) (columns : ℕ) (a b : List Float) → Refusals (side_tests y columns a b)
sides_refuse y columns a b = tests_refuse (side_tests y columns a b)

pub columns_refuse : (y : Layout) (columns run : ℕ) (a : List Float) (words : List ℕ) (b : List Float) → Refusals (column_tests y columns run a words b)
columns_refuse y columns run a words b = tests_refuse (column_tests y columns run a words b)

-- ---- a matrix M of the order, to be filled in

module _ (y : Layout) (run : ℕ) (a : List Float) (words : List ℕ) (l : List Float) where
  refuses : {M : Matrix} {fault : Refusal} → Err fault ≡ tested (column_tests y y.order run a words l) Done → LbltFilled y run a words M l (Err fault) l
  refuses is = record { answer = is; left = leaving_refused refl refl }

  pub sides_refused : {M : Matrix} {fault : Refusal} → Err fault ≡ tested (side_tests y y.order a l) Done → LbltFilled y run a words M l (Err fault) l
  sides_refused is = refuses (sym (joined_refused (side_tests y y.order a l) (word_tests y.order run words) Done (sym is)))

  module _ (sized : Done ≡ tested (side_tests y y.order a l) Done) where
    pub words_refused : {M : Matrix} {fault : Refusal} → Err fault ≡ tested (word_tests y.order run words) Done → LbltFilled y run a words M l (Err fault) l
    words_refused is = refuses (columns_answers y y.order run a words l sized is)

    module _ (read : Done ≡ tested (word_tests y.order run words) Done) where
      passed : Done ≡ tested (column_tests y y.order run a words l) Done
      passed = columns_answers y y.order run a words l sized read

      pub fills_readable : Readable y a words
      fills_readable = (columns_done y y.order run a words l passed).readable

      pub fills_squared : Squared y.order l
      fills_squared = let known = columns_done y y.order run a words l passed in record { small = known.few; long = known.long }

      pub fills : {M : Matrix} {l' : List Float} → Fills y.order l' M → LbltFilled y run a words M l Done l'
      fills filled = record { answer = passed; left = leaving_done refl filled }
