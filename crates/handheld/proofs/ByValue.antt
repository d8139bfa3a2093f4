-- `factor` by value, from what its steps come to. Assumes nothing.
use Rattle.std.proofs.Common.{◌≡◌, refl, sym, ◌∙◌, ap, subst, true, List, [], ◌∷◌, ℕ, zero, suc, arith, length, get_or, set, set-set, Float}
use lib.Ieee.{nan}
use Rattle.answer.specs.Answer.{Answer, Done, is_done}
use Rattle.matrix.specs.Matrix.{Matrix}
use Rattle.matrix.specs.Grid.{load, Free, Holds}
use Rattle.matrix.specs.Layouts.{full, lower}
use Rattle.matrix.specs.Sizes.{Fits}
use Rattle.matrix.proofs.Sizes.{full_fits, laid_fits}
use Rattle.pivots.specs.Words.{words_of, Sized, marked, stamped}
use Rattle.lblt.specs.Factor as lblt
use Rattle.lblt.specs.Factor.{final_state, recorded}
use Rattle.lblt.proofs.Done.{all_right, finished}
use Rattle.lblt.proofs.Accepted.{factor_accepted, factor_run}
use Rattle.lblt.proofs.Overwritten.{overwritten, factor_apart}
use Rattle.handheld.specs.declared.Column3.{Column3}
use Rattle.handheld.specs.declared.Pivots3.{Pivots3}
use Rattle.handheld.specs.declared.Triangle.{Triangle}
use Rattle.handheld.specs.declared.Factored.{Factored}
use Rattle.handheld.specs.declared.numbers.Nine.{Nine}
use Rattle.handheld.specs.declared.steps.Stepped.{Stepped}
use Rattle.handheld.specs.Shapes.{numbers_of, Threes, Square, record_of}
use Rattle.handheld.specs.Promise.{FactoredByValue}
use Rattle.handheld.specs.inner.Numbers.{nine_of, in_nine, lower_of, factored_of}
use Rattle.handheld.specs.inner.Triangle.{matrix_of}
use Rattle.handheld.specs.inner.Steps.{blank, Comes}
use Rattle.handheld.proofs.Triangles.{full_six}

nine_fits : Fits (full 3) 0 9
nine_fits = full_fits 3 9 (omega arith) refl

blank_sized : Sized 3 blank
blank_sized = record { order = omega arith; total = refl }

-- ---- by the lent call

-- a record of order 3, word by word
eight_listed : (words : List ℕ) {run : ℕ} → length words ≡ words_of 3 → get_or words 7 0 ≡ run
    → words ≡ get_or words 0 0 ∷ get_or words 1 0 ∷ get_or words 2 0 ∷ get_or words 3 0 ∷ get_or words 4 0 ∷ get_or words 5 0 ∷ get_or words 6 0 ∷ run ∷ []
eight_listed (a ∷ b ∷ c ∷ d ∷ e ∷ f ∷ g ∷ h ∷ []) long is = rw is
eight_listed [] long is = absurd (omega arith)
eight_listed (a ∷ []) long is = absurd (omega arith)
eight_listed (a ∷ b ∷ []) long is = absurd (omega arith)
eight_listed (a ∷ b ∷ c ∷ []) long is = absurd (omega arith)
eight_listed (a ∷ b ∷ c ∷ d ∷ []) long is = absurd (omega arith)
eight_listed (a ∷ b ∷ c ∷ d ∷ e ∷ []) long is = absurd (omega arith)
eight_listed (a ∷ b ∷ c ∷ d ∷ e ∷ f ∷ []) long is = absurd (omega arith)
eight_listed (a ∷ b ∷ c ∷ d ∷ e ∷ f ∷ g ∷ []) long is = absurd (omega arith)
eight_listed (a ∷ b ∷ c ∷ d ∷ e ∷ f ∷ g ∷ h ∷ i ∷ words) long is = absurd (omega arith)

-- its pivots
abbrev pivots_in : List ℕ → Pivots3
pivots_in words = record {
  index = get_or words 0 0 ∷ get_or words 2 0 ∷ get_or words 4 0 ∷ [];
  size = get_or words 1 0 ∷ get_or words 3 0 ∷ get_or words 5 0 ∷ [];
  mark = get_or words 6 0;
}

module _ (n : Nine) {r : Answer} {a : List Float} {words : List ℕ} (f : lblt.Factored (full 3) 0 (nine_of n) blank r a words) where
  lent_done : is_done r ≡ true
  lent_done = ap is_done (f.answer ∙ all_right (full 3) (nine_of n) blank nine_fits refl)

  pub lent_comes : Comes (record { lower = in_nine a; pivots = pivots_in words }) (final_state 3 (matrix_of (lower_of n)) blank)
  unfolding recorded record_of
  lent_comes =
      let given : load (lower (full 3)) (nine_of n) ≡ matrix_of (lower_of n) = full_six (nine_of n) in
      let stored = f.left.done lent_done in
      record {
        matrix = ap (λ (M : Matrix). (final_state 3 M blank).matrix) (sym given) ∙ sym stored.matrix.cells ∙ full_six a;
        paired = record { indexes = refl; sizes = refl };
        words =
            ap (λ (M : Matrix). recorded 3 0 M blank) (sym given) ∙ sym stored.pivots
            ∙ eight_listed words (factor_accepted f lent_done).sized.total (factor_run f lent_done);
      }

  -- of any name of the same numbers
  pub lent_comes_as : (matrix : List Column3) → numbers_of matrix ≡ nine_of n → (m : Nine) → numbers_of matrix ≡ nine_of m
      → Comes (record { lower = in_nine a; pivots = pivots_in words }) (final_state 3 (matrix_of (lower_of m)) blank)
  lent_comes_as matrix is m other =
      let same : lower_of n ≡ lower_of m = ap in_nine (sym is ∙ other) in
      subst (λ (t : Triangle). Comes (record { lower = in_nine a; pivots = pivots_in words }) (final_state 3 (matrix_of t) blank)) same lent_comes

-- ---- what the steps come to

module _ (M : Matrix) (p : Pivots3) (is : recorded 3 0 M blank ≡ record_of 0 p) (run : ℕ) where
  restamped : stamped 3 (record_of 0 p) run ≡ record_of run p
  unfolding stamped record_of
  restamped = refl

  over_blank : recorded 3 run M blank ≡ record_of run p
  unfolding recorded stamped
  over_blank = sym (set-set (marked 3 (final_state 3 M blank).words (final_state 3 M blank).mark) 7 0 run) ∙ ap (λ (words : List ℕ). set words 7 run) is ∙ restamped

  -- the record of pivots, with any run number and over any words
  record_any : (words : List ℕ) → length words ≡ words_of 3 → record_of run p ≡ recorded 3 run M words
  record_any words long = sym (overwritten 3 M words blank (record { order = omega arith; total = long }) blank_sized run ∙ over_blank)

module _ (n : Nine) (s : Stepped) (comes : Comes s (final_state 3 (matrix_of (lower_of n)) blank)) where
  -- above the diagonal all is as it was
  upper_kept : (p : ℕ) → Free (lower (full 3)) p → get_or (numbers_of (factored_of n s).matrix) p nan ≡ get_or (nine_of n) p nan
  unfolding numbers_of lower
  upper_kept zero free = absurd (free 0 0 tt refl)
  upper_kept (suc zero) free = absurd (free 1 0 tt refl)
  upper_kept (suc (suc zero)) free = absurd (free 2 0 tt refl)
  upper_kept (suc (suc (suc zero))) free = refl
  upper_kept (suc (suc (suc (suc zero)))) free = absurd (free 1 1 tt refl)
  upper_kept (suc (suc (suc (suc (suc zero))))) free = absurd (free 2 1 tt refl)
  upper_kept (suc (suc (suc (suc (suc (suc zero)))))) free = refl
  upper_kept (suc (suc (suc (suc (suc (suc (suc zero))))))) free = refl
  upper_kept (suc (suc (suc (suc (suc (suc (suc (suc zero)))))))) free = absurd (free 2 2 tt refl)
  upper_kept (suc (suc (suc (suc (suc (suc (suc (suc (suc p))))))))) free = refl

  abbrev left : List Float
  left = numbers_of (factored_of n s).matrix

  left_long : length left ≡ 9
  unfolding numbers_of
  left_long = refl

  left_six : matrix_of (in_nine left) ≡ matrix_of s.lower
  unfolding numbers_of
  left_six = refl

  module _ (run : ℕ) (words : List ℕ) (long : length words ≡ words_of 3) where
    sized : Sized 3 words
    sized = record { order = omega arith; total = long }

    given : load (lower (full 3)) (nine_of n) ≡ matrix_of (lower_of n)
    given = full_six (nine_of n)

    holds : Holds (lower (full 3)) (nine_of n) left (final_state 3 (load (lower (full 3)) (nine_of n)) words).matrix
    holds = record {
      sound = (laid_fits (subst (Fits (full 3) 0) (sym left_long) nine_fits)).sound;
      cells =
          full_six left ∙ left_six ∙ sym comes.matrix ∙ factor_apart 3 (matrix_of (lower_of n)) blank words blank_sized sized
          ∙ ap (λ (M : Matrix). (final_state 3 M words).matrix) (sym given);
      kept = upper_kept;
    }

    stamps : record_of run s.pivots ≡ recorded 3 run (load (lower (full 3)) (nine_of n)) words
    unfolding recorded
    stamps = record_any (matrix_of (lower_of n)) s.pivots comes.words run words long ∙ ap (λ (M : Matrix). recorded 3 run M words) (sym given)

    pub as_lent : lblt.Factored (full 3) run (nine_of n) words Done left (record_of run s.pivots)
    unfolding recorded
    as_lent = finished (full 3) (nine_of n) words nine_fits long (record { matrix = holds; pairs = refl; mark = refl }) refl stamps

  pub by_value : {matrix : List Column3} {r : Factored} → numbers_of matrix ≡ nine_of n → r ≡ factored_of n s → FactoredByValue matrix r
  by_value {matrix} is made = subst (FactoredByValue matrix) (sym made) (record {
    square = square;
    paired = comes.paired;
    lent = λ run words long. subst (λ (a : List Float). lblt.Factored (full 3) run a words Done left (record_of run s.pivots)) (sym is) (as_lent run words long);
  })
    where
      square : Square (factored_of n s).matrix
      square = record { three = refl; rows = unfold Threes in (refl, (refl, (refl, tt))) }
