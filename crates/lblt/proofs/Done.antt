-- What `factor` promises, way by way; two answers that meet the promise are equal. Assumes nothing.
use Rattle.std.specs.Prelude.{Err}
use mathlib.Core.Path.{◌≡◌, refl, sym, ◌∙◌, ap}
use mathlib.Core.Bool.{true, false}
use mathlib.Core.List.{List, [], ◌∷◌}
use Prim.Native.Nat.{ℕ}
use native.Mathlib.Omega.{arith}
use lib.Dec.{eqb}
use lib.ListN.{length}
use lib.Ieee.{Float}
use borrow.Author.Tests.{eq-eqb, ne_eqb, eqb-true}
use Rattle.answer.specs.declared.Refusal.{Refusal}
use Rattle.answer.specs.declared.Refusal.TheVariants.{SliceLength}
use Rattle.answer.specs.Answer.{Answer, Done, is_done}
use Rattle.answer.specs.Refusals.{Test, ◌otherwise◌, tested}
use Rattle.answer.proofs.Tested.{tested_all, tested_at, tested_join, joined_refused, all_hold, here, leaving_done, leaving_refused, leaving_alike}
use Rattle.matrix.specs.Layouts.{Roomy}
use Rattle.matrix.specs.Sizes.{size_tests, Fits}
use Rattle.matrix.specs.declared.Layout.{Layout}
use Rattle.matrix.proofs.Grids.{holds_unique}
use Rattle.matrix.proofs.Sizes.{hold_fits, fits_pass}
use Rattle.pivots.specs.Words.{words_of, mark_at, marked, stamped, Sized}
use Rattle.pivots.proofs.Written.{ended_mark}
use Rattle.lblt.specs.Factor.{factor_tests, recorded, Stored, Factored}
use Rattle.lblt.specs.inner.Engine.{Steps, Filled}

-- ---- all steps, then the mark and the run number

stores : {y : Layout} {run : ℕ} {a : List Float} {words : List ℕ} {a' : List Float} {words₁ words₂ words' : List ℕ} {mark : ℕ}
    → Steps y a words a' words₁ mark → words₂ ≡ marked y.order words₁ mark → words' ≡ stamped y.order words₂ run → Stored y run a words a' words'
unfolding recorded
stores steps marks stamps = record { matrix = steps.matrix; pivots = rw (rw (steps.pairs, steps.mark) at marks) at stamps }

pub fills : {y : Layout} {run : ℕ} {a : List Float} {words : List ℕ} {a' : List Float} {words₁ words₂ words' : List ℕ} {mark : ℕ}
    → length words₁ ≡ words_of y.order → Steps y a words a' words₁ mark → words₂ ≡ marked y.order words₁ mark → words' ≡ stamped y.order words₂ run → Filled y run a words a' words' mark
fills {y} {run} {words₁ = words₁} {mark = mark} total steps marks stamps = record {
  stored = stores steps marks stamps;
  mark = sym (ap (mark_at y.order) (rw marks at stamps) ∙ ended_mark y.order words₁ mark run total);
}

-- ---- the ways out

module _ (y : Layout) (a : List Float) (words : List ℕ) where
  -- after the tests of size, the record's
  abbrev length_test : List Test
  length_test = (eqb (length words) (words_of y.order) otherwise SliceLength) ∷ []

  in_turn : tested (factor_tests y a words) Done ≡ tested (size_tests y 0 (length a)) (tested length_test Done)
  in_turn = tested_join (size_tests y 0 (length a)) length_test Done

  refusal : {run : ℕ} {r : Answer} → r ≡ tested (factor_tests y a words) Done → is_done r ≡ false → Factored y run a words r a words
  refusal is refused = record { answer = is; left = leaving_refused refused (record { matrix = refl; pivots = refl }) }

  pub wrong_size : {run : ℕ} {fault : Refusal} → Err fault ≡ tested (size_tests y 0 (length a)) Done → Factored y run a words (Err fault) a words
  wrong_size is = refusal (sym (joined_refused (size_tests y 0 (length a)) length_test Done (sym is))) refl

  module _ (fits : Fits y 0 (length a)) where
    passed : tested (factor_tests y a words) Done ≡ tested length_test Done
    passed = in_turn ∙ fits_pass y 0 (length a) fits (tested length_test Done)

    pub wrong_record : {run : ℕ} → (length words ≡ words_of y.order → ⊥) → Factored y run a words (Err SliceLength) a words
    wrong_record wrong = refusal (sym (passed ∙ tested_at length_test Done (here (ne_eqb (length words) (words_of y.order) wrong) refl))) refl

    pub all_right : length words ≡ words_of y.order → tested (factor_tests y a words) Done ≡ Done
    all_right total = passed ∙ tested_all length_test Done (eq-eqb (length words) (words_of y.order) total, tt)

    pub done : {run : ℕ} {a' : List Float} {words' : List ℕ} → length words ≡ words_of y.order → Stored y run a words a' words' → Factored y run a words Done a' words'
    done total stored = record { answer = sym (all_right total); left = leaving_done refl stored }

    pub finished : {run : ℕ} {a' : List Float} {words₁ words₂ words' : List ℕ} {mark : ℕ}
        → length words ≡ words_of y.order → Steps y a words a' words₁ mark → words₂ ≡ marked y.order words₁ mark → words' ≡ stamped y.order words₂ run → Factored y run a words Done a' words'
    finished total steps marks stamps = done total (stores steps marks stamps)

  -- a call that is done was given an allowed order and as many words as it has
  pub done_sized : is_done (tested (factor_tests y a words) Done) ≡ true → Sized y.order words
  done_sized done =
      let sizes = all_hold (size_tests y 0 (length a)) (tested length_test Done) (ap is_done (sym in_turn) ∙ done) in
      let roomy : Roomy y = (hold_fits y 0 (length a) sizes.0).roomy in
      record { order = omega (arith, roomy.ordered, roomy.small); total = eqb-true (length words) (words_of y.order) (all_hold length_test Done sizes.1).0.0 }

-- ---- the promise fixes all that it speaks of

pub record Same (r r' : Answer) (a a' : List Float) (words words' : List ℕ) : Type 0 where
  pub answer : r ≡ r'
  pub matrix : a ≡ a'
  pub pivots : words ≡ words'

pub factored_unique : {y : Layout} {run : ℕ} {a : List Float} {words : List ℕ} {r₁ r₂ : Answer} {a₁ a₂ : List Float} {words₁ words₂ : List ℕ}
    → Factored y run a words r₁ a₁ words₁ → Factored y run a words r₂ a₂ words₂ → Same r₁ r₂ a₁ a₂ words₁ words₂
factored_unique {r₁ = r₁} {r₂} f g =
    let same : r₁ ≡ r₂ = f.answer ∙ sym g.answer in
    leaving_alike same f.left g.left
    (λ s t. record { answer = same; matrix = holds_unique s.matrix t.matrix; pivots = s.pivots ∙ sym t.pivots })
    (λ s t. record { answer = same; matrix = s.matrix ∙ sym t.matrix; pivots = s.pivots ∙ sym t.pivots })
