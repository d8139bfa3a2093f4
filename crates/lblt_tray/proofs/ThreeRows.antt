-- An item of three rows, from what its steps come to. Assumes nothing.
--     side_put         its side, number by number
--     first_chosen     which pivot the first step takes
--     three_factored   the factor's promise
--     three_solved     the item's
use Rattle.std.proofs.Common.{Bool, true, false, List, [], ◌∷◌, ◌≡◌, refl, ap, ◌∙◌, ℕ, arith, Float, length, set}
use lib.Ieee.{lt}
use Rattle.answer.specs.Answer.{Done}
use Rattle.leaf.specs.Abs.{abs_of}
use Rattle.leaf.specs.Maximum.{maximum_of}
use Rattle.matrix.specs.Grid.{load}
use Rattle.matrix.specs.Layouts.{full, lower}
use Rattle.matrix.specs.Rounded.{plus_zero}
use Rattle.lblt_choice.specs.Choice.{choose}
use Rattle.lblt_choice.specs.declared.Choice.{Choice}
use Rattle.lblt.specs.Factor.{Factored, final_state}
use Rattle.lblt_solve_columns.specs.Column.{solve_column}
use Rattle.handheld.specs.declared.Triangle.{Triangle}
use Rattle.handheld.specs.declared.numbers.Three.{Three}
use Rattle.handheld.specs.declared.steps.Stepped.{Stepped}
use Rattle.handheld.specs.Shapes.{numbers_of, record_of}
use Rattle.handheld.specs.inner.Numbers.{three_of, in_nine}
use Rattle.handheld.specs.inner.Triangle.{matrix_of}
use Rattle.handheld.specs.inner.Choice.{choice_of}
use Rattle.handheld.specs.inner.Steps.{blank, Comes}
use Rattle.handheld.proofs.Choices.{first_two, first_one}
use Rattle.handheld.proofs.ByValue.{as_lent}
use Rattle.handheld.proofs.Triangles.{full_six}
use Rattle.lblt_tray.specs.declared.three.Top.{Top}
use Rattle.lblt_tray.specs.Tray.{ItemSolved}
use Rattle.lblt_tray.specs.inner.Engine.{Item}
use Rattle.lblt_tray.specs.inner.Three.{with_lower, record_by, top_of, ending_in, Ends}
use Rattle.lblt_tray.proofs.Own.{item_unmarked}

-- what holds of three numbers, of nine numbers, each by name, holds of every list of that length
of_three : (P : List Float → Type 0) → ((c d e : Float) → P (c ∷ d ∷ e ∷ [])) → (l : List Float) → length l ≡ 3 → P l
of_three P all (c ∷ d ∷ e ∷ []) long = all c d e
of_three P all [] long = absurd (omega arith)
of_three P all (c ∷ []) long = absurd (omega arith)
of_three P all (c ∷ d ∷ []) long = absurd (omega arith)
of_three P all (c ∷ d ∷ e ∷ f ∷ l) long = absurd (omega arith)

of_nine : (P : List Float → Type 0) → ((c d e f g h i j k : Float) → P (c ∷ d ∷ e ∷ f ∷ g ∷ h ∷ i ∷ j ∷ k ∷ [])) → (l : List Float) → length l ≡ 9 → P l
of_nine P all (c ∷ d ∷ e ∷ f ∷ g ∷ h ∷ i ∷ j ∷ k ∷ []) long = all c d e f g h i j k
of_nine P all [] long = absurd (omega arith)
of_nine P all (c ∷ []) long = absurd (omega arith)
of_nine P all (c ∷ d ∷ []) long = absurd (omega arith)
of_nine P all (c ∷ d ∷ e ∷ []) long = absurd (omega arith)
of_nine P all (c ∷ d ∷ e ∷ f ∷ []) long = absurd (omega arith)
of_nine P all (c ∷ d ∷ e ∷ f ∷ g ∷ []) long = absurd (omega arith)
of_nine P all (c ∷ d ∷ e ∷ f ∷ g ∷ h ∷ []) long = absurd (omega arith)
of_nine P all (c ∷ d ∷ e ∷ f ∷ g ∷ h ∷ i ∷ []) long = absurd (omega arith)
of_nine P all (c ∷ d ∷ e ∷ f ∷ g ∷ h ∷ i ∷ j ∷ []) long = absurd (omega arith)
of_nine P all (c ∷ d ∷ e ∷ f ∷ g ∷ h ∷ i ∷ j ∷ k ∷ m ∷ l) long = absurd (omega arith)

-- ---- the slices

pub side_put : (b : List Float) (s : Three) → length b ≡ 3 → set (set (set b 0 s.x) 1 s.y) 2 s.z ≡ three_of s
side_put b s = of_three (λ l. set (set (set l 0 s.x) 1 s.y) 2 s.z ≡ three_of s) (λ c d e. refl) b

-- the triangle that is put is there
lower_put : (t : Triangle) (a : List Float) → length a ≡ 9 → in_nine (with_lower a t) ≡ t
lower_put t = of_nine (λ l. in_nine (with_lower l t) ≡ t) (λ c d e f g h i j k. refl)

-- ---- the choice at row 0

module _ (t : Triangle) {diag one two rest above rowmax : Float} {top : Top} {r : Choice}
    (diag-is : diag ≡ abs_of t.a00) (one_is : one ≡ abs_of t.a10) (two_is : two ≡ abs_of t.a20) (rest-is : rest ≡ abs_of t.a21)
    (top-is : top ≡ top_of t one two) (above-is : above ≡ maximum_of plus_zero top.largest) (rowmax-is : rowmax ≡ maximum_of above rest)
    (is : r ≡ choice_of 0 diag top.largest top.row rowmax top.diagonal)
  where
    pub first_chosen : r ≡ choose 3 (matrix_of t) 0
    unfolding top_of
    first_chosen = by (lt one two) refl
      where
        by : (test : Bool) → lt one two ≡ test → r ≡ choose 3 (matrix_of t) 0
        by true e =
            let found : top ≡ record { row = 2; largest = two; diagonal = t.a22 } = top-is ∙ rw e refl in
            first_two t diag-is one_is two_is rest-is e
            (above-is ∙ ap (λ (x : Top). maximum_of plus_zero x.largest) found) rowmax-is
            (is ∙ ap (λ (x : Top). choice_of 0 diag x.largest x.row rowmax x.diagonal) found)
        by false e =
            let found : top ≡ record { row = 1; largest = one; diagonal = t.a11 } = top-is ∙ rw e refl in
            first_one t diag-is one_is two_is rest-is e
            (above-is ∙ ap (λ (x : Top). maximum_of plus_zero x.largest) found) rowmax-is
            (is ∙ ap (λ (x : Top). choice_of 0 diag x.largest x.row rowmax x.diagonal) found)

-- ---- the item

module _ (s : Stepped) (run : ℕ) (words : List ℕ) (total : length words ≡ 8) where
  three_factored
      : (a : List Float) → length a ≡ 9 → Comes s (final_state 3 (matrix_of (in_nine a)) blank)
      → Factored (full 3) run a words Done (with_lower a s.lower) (record_of run s.pivots)
  unfolding numbers_of
  three_factored =
      of_nine (λ l. Comes s (final_state 3 (matrix_of (in_nine l)) blank) → Factored (full 3) run l words Done (with_lower l s.lower) (record_of run s.pivots))
      (λ c d e f g h i j k comes.
      as_lent (record { first = record { x = c; y = d; z = e }; second = record { x = f; y = g; z = h }; third = record { x = i; y = j; z = k } }) s comes run words total)

pub three_solved
    : {run index0 size0 index1 size1 size2 : ℕ} {a : List Float} {words : List ℕ} {b : List Float} {t : Triangle} {given : Three} → Item 3 a words b
    → Ends a t index0 size0 index1 size1 size2
    → {a' : List Float} {words' : List ℕ} {solved : Three} {b' : List Float}
    → a' ≡ with_lower a t → words' ≡ record_by index0 size0 index1 size1 size2 run
    → b ≡ three_of given
    → ((mark run : ℕ) → three_of solved ≡ solve_column 3 (matrix_of t) (index0 ∷ size0 ∷ index1 ∷ size1 ∷ 2 ∷ size2 ∷ mark ∷ run ∷ []) (three_of given))
    → b' ≡ three_of solved
    → ItemSolved 3 run a words b 0 a' words' b'
unfolding record_of
three_solved {run} {index0} {size0} {index1} {size1} {size2} {a} {words} {b} {t} {given} item ends {solved = solved} {b'} put recorded listed by back =
    rw (put, recorded)
    (item_unmarked (three_factored (ending_in t index0 size0 index1 size1 size2) run words item.pivots a item.matrix ends) b item.side refl left)
  where
    factor : load (lower (full 3)) (with_lower a t) ≡ matrix_of t
    factor = full_six (with_lower a t) ∙ ap matrix_of (lower_put t a item.matrix)

    left : b' ≡ solve_column 3 (load (lower (full 3)) (with_lower a t)) (record_by index0 size0 index1 size1 size2 run) b
    left = back ∙ by 0 run ∙ rw (factor, listed) refl
