-- What stood in the record before does not matter: all its words are written, and the matrix does not feel them. Assumes nothing.
use mathlib.Core.Path.{◌≡◌, refl, sym, ◌∙◌, ap, subst}
use mathlib.Core.Bool.{Bool, true, false, cond}
use mathlib.Core.List.{List}
use Prim.Native.Nat.{ℕ, zero, suc, ◌+◌, ◌≤◌, ◌<◌}
use native.Mathlib.Omega.{arith}
use lib.Dec.{ltb, eqb}
use lib.Ieee.{Float}
use lib.ListN.{length, get_or, set, length-set}
use lib.Seq.{get_or-set_same, get_or-set_other, ext_get_or}
use borrow.Author.Tests.{ltb-true, ltb-false, eqb-true, eqb-false}
use Rattle.answer.specs.Answer.{Answer, Done, is_done}
use Rattle.answer.specs.Refusals.{tested}
use Rattle.answer.proofs.Tested.{tested_join}
use Rattle.matrix.specs.Matrix.{Matrix}
use Rattle.matrix.specs.Grid.{load}
use Rattle.matrix.specs.Layouts.{lower}
use Rattle.matrix.specs.Sizes.{size_tests, Fits}
use Rattle.matrix.specs.declared.Layout.{Layout}
use Rattle.matrix.proofs.Grids.{holds_unique, holds_as}
use Rattle.matrix.proofs.Sizes.{done_fits}
use Rattle.pivots.specs.Words.{index_word, size_word, mark_word, run_word, words_of, Sized, paired, marked, stamped}
use Rattle.pivots.proofs.Written.{paired_length}
use Rattle.lblt_choice.specs.Choice.{choose}
use Rattle.lblt.specs.Step.{State, take, step, stepped}
use Rattle.lblt.specs.Factor.{factor_tests, first_state, final_state, recorded, Factored}
use Rattle.lblt_choice.specs.declared.Choice.{Choice}
use Rattle.lblt_choice.specs.declared.Choice.TheVariants.{ZeroColumn, One, Two}
use Rattle.lblt_choice.proofs.Range.{Within, choose_range}
use Rattle.lblt.proofs.Done.{done_sized, all_right, Same}
use Rattle.lblt.proofs.Stands.{step_rises}

-- two records of one length with the same first m words
record Alike (m : ℕ) (words words' : List ℕ) : Type 0 where
  pub long : length words ≡ length words'
  pub first : (p : ℕ) → p < m → get_or words p 0 ≡ get_or words' p 0

alike_less : {m m' : ℕ} {words words' : List ℕ} → m' ≤ m → Alike m words words' → Alike m' words words'
alike_less less a = record { long = a.long; first = λ p h. a.first p (omega arith) }

alike_set : {m : ℕ} {words words' : List ℕ} (v : ℕ) → m < length words → Alike m words words' → Alike (m + 1) (set words m v) (set words' m v)
alike_set {m} {words} {words'} v room a = record { long = length-set words m v ∙ a.long ∙ sym (length-set words' m v); first = λ p h. at p h (eqb p m) refl }
  where
    at : (p : ℕ) → p < m + 1 → (b : Bool) → eqb p m ≡ b → get_or (set words m v) p 0 ≡ get_or (set words' m v) p 0
    at p h true e =
        subst (λ (q : ℕ). get_or (set words m v) q 0 ≡ get_or (set words' m v) q 0) (sym (eqb-true p m e))
        (get_or-set_same words m v 0 room ∙ sym (get_or-set_same words' m v 0 (omega (arith, a.long))))
    at p h false e =
        let other = eqb-false p m e in
        let less : p < m = omega (arith, other) in
        get_or-set_other words m p v 0 other ∙ a.first p less ∙ sym (get_or-set_other words' m p v 0 other)

alike_paired : {words words' : List ℕ} (k index size : ℕ) → size_word k < length words → Alike (index_word k) words words' → Alike (index_word (k + 1)) (paired words k index size) (paired words' k index size)
unfolding paired
alike_paired {words} {words'} k index size room a =
    alike_less (omega arith) (alike_set size (omega (arith, length-set words (index_word k) index)) (alike_set index (omega arith) a))

-- ---- steps

-- a state over other words
abbrev over : State → List ℕ → State
over S words = record { matrix = S.matrix; words = words; row = S.row; mark = S.mark }

-- the words that a choice notes
noted : State → Choice → List ℕ → List ℕ
noted S ZeroColumn words = paired words S.row S.row 1
noted S (One p) words = paired words S.row p 1
noted S (Two p) words = paired (paired words S.row p 2) (S.row + 1) p 2

take_over : (n : ℕ) (S : State) (words : List ℕ) (c : Choice) → take n (over S words) c ≡ over (take n S c) (noted S c words)
unfolding take noted
take_over n S words ZeroColumn = refl
take_over n S words (One p) = refl
take_over n S words (Two p) = refl

noted_long : (S : State) (c : Choice) (words : List ℕ) → length (noted S c words) ≡ length words
unfolding noted
noted_long S ZeroColumn words = paired_length words S.row S.row 1
noted_long S (One p) words = paired_length words S.row p 1
noted_long S (Two p) words = paired_length (paired words S.row p 2) (S.row + 1) p 2 ∙ paired_length words S.row p 2

module _ (n : ℕ) (S : State) (words words' : List ℕ) (long : length words ≡ words_of n) (more : S.row < n) (a : Alike (index_word S.row) words words') where
  alike_noted : (c : Choice) → Within n S.row c → Alike (index_word (take n S c).row) (noted S c words) (noted S c words')
  unfolding take noted Within
  alike_noted ZeroColumn range = alike_paired S.row S.row 1 (omega arith) a
  alike_noted (One p) range = alike_paired S.row p 1 (omega arith) a
  alike_noted (Two p) range =
      alike_less (omega arith)
      (alike_paired (S.row + 1) p 2 (omega (arith, paired_length words S.row p 2, range.0, range.1)) (alike_paired S.row p 2 (omega arith) a))

  alike_step : Alike (index_word (step n S).row) (noted S (choose n S.matrix S.row) words) (noted S (choose n S.matrix S.row) words')
  unfolding step
  alike_step = alike_noted (choose n S.matrix S.row) (choose_range n S.matrix S.row more)

step_over : (n : ℕ) (S : State) (words : List ℕ) → step n (over S words) ≡ over (step n S) (noted S (choose n S.matrix S.row) words)
unfolding step
step_over n S words = take_over n S words (choose n S.matrix S.row)

-- what the steps end with over two records
record Ends (n : ℕ) (S S' : State) : Type 0 where
  pub matrix : S.matrix ≡ S'.matrix
  pub mark : S.mark ≡ S'.mark
  pub words : Alike (mark_word n) S.words S'.words
  pub long : length S.words ≡ words_of n

by_test : (n : ℕ) (b : Bool) {x y x' y' : State} → (b ≡ true → Ends n x x') → (b ≡ false → Ends n y y') → Ends n (cond b x y) (cond b x' y')
by_test n true f g = f refl
by_test n false f g = g refl

stepped_over : (fuel n : ℕ) (S : State) (words words' : List ℕ) → length words ≡ words_of n → n ≤ S.row + fuel → Alike (index_word S.row) words words' → Ends n (stepped fuel n (over S words)) (stepped fuel n (over S words'))
unfolding stepped
stepped_over zero n S words words' long enough a = record { matrix = refl; mark = refl; words = alike_less (omega arith) a; long = long }
stepped_over (suc fuel) n S words words' long enough a =
    by_test n (ltb S.row n)
    (λ test.
    let more : S.row < n = ltb-true S.row n test in
    let c = choose n S.matrix S.row in
    rw (step_over n S words, step_over n S words')
    (stepped_over fuel n (step n S) (noted S c words) (noted S c words') (noted_long S c words ∙ long) (omega (arith, step_rises n S)) (alike_step n S words words' long more a)))
    (λ test.
    let past : n ≤ S.row = ltb-false S.row n test in
    record { matrix = refl; mark = refl; words = alike_less (omega arith) a; long = long })

-- ---- the record

alike_all : (n run : ℕ) {words words' : List ℕ} (m : ℕ) → length words ≡ words_of n → Alike (mark_word n) words words' → stamped n (marked n words m) run ≡ stamped n (marked n words' m) run
unfolding marked stamped
alike_all n run {words} {words'} m long a =
    let marks : length (set words (mark_word n) m) ≡ words_of n = length-set words (mark_word n) m ∙ long in
    let b = alike_set run (omega (arith, marks)) (alike_set m (omega arith) a) in
    ext_get_or 0 (set (set words (mark_word n) m) (run_word n) run) (set (set words' (mark_word n) m) (run_word n) run) b.long
    (λ p h. b.first p (omega (arith, length-set (set words (mark_word n) m) (run_word n) run, marks)))

module _ (n : ℕ) (M : Matrix) (words words' : List ℕ) (sized : Sized n words) (sized' : Sized n words') where
  ends : Ends n (final_state n M words) (final_state n M words')
  unfolding final_state first_state
  ends =
      stepped_over n n (record { matrix = M; words = words; row = 0; mark = 0 }) words words' sized.total (omega arith)
      (record { long = sized.total ∙ sym sized'.total; first = λ p h. absurd (omega arith) })

  pub overwritten : (run : ℕ) → recorded n run M words ≡ recorded n run M words'
  unfolding recorded
  overwritten run =
      alike_all n run (final_state n M words).mark ends.long ends.words
      ∙ ap (λ (m : ℕ). stamped n (marked n (final_state n M words').words m) run) ends.mark

  pub factor_apart : (final_state n M words).matrix ≡ (final_state n M words').matrix
  factor_apart = ends.matrix

-- ---- two calls on one matrix, with one run number, over whatever stood in their records

module _ {y : Layout} {run : ℕ} {a : List Float} {words words₀ : List ℕ} {r : Answer} {a' a₁ : List Float} {words' words₁ : List ℕ}
    (f : Factored y run a words Done a' words') (g : Factored y run a words₀ r a₁ words₁) (long : length words₀ ≡ words_of y.order)
  where
    done : is_done (tested (factor_tests y a words) Done) ≡ true
    done = ap is_done (sym f.answer)

    fits : Fits y 0 (length a)
    fits = done_fits y 0 (length a) _ (ap is_done (sym (tested_join (size_tests y 0 (length a)) _ Done)) ∙ done)

    sized : Sized y.order words
    sized = done_sized y a words done

    sized₀ : Sized y.order words₀
    sized₀ = record { order = sized.order; total = long }

    pub factored_over : Same Done r a' a₁ words' words₁
    factored_over =
        let also : r ≡ Done = g.answer ∙ all_right y a words₀ fits long in
        let first = f.left.done refl in
        let second = g.left.done (ap is_done also) in
        record {
          answer = sym also;
          matrix = holds_unique first.matrix (holds_as second.matrix (sym (factor_apart y.order (load (lower y) a) words words₀ sized sized₀)));
          pivots = first.pivots ∙ overwritten y.order (load (lower y) a) words words₀ sized sized₀ run ∙ sym second.pivots;
        }
