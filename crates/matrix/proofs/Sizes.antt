-- Slices that fit their layout: what the tests of size tell, and what steps leave of it. Assumes nothing.
use Rattle.std.specs.Prelude.{Result}
use mathlib.Core.Path.{◌≡◌, refl, ◌∙◌, ap}
use mathlib.Core.Bool.{true}
use mathlib.Core.List.{List, ◌++◌}
use Prim.Native.Nat.{ℕ, ◌*◌, ◌≤◌}
use native.Mathlib.Omega.{arith}
use lib.ListN.{length}
use lib.Ieee.{Float}
use borrow.Author.Tests.{leb-true, le-leb, eqb-true, eq-eqb}
use Rattle.answer.specs.declared.Refusal.{Refusal}
use Rattle.answer.specs.Answer.{Done, is_done}
use Rattle.answer.specs.Refusals.{Test, tested}
use Rattle.answer.proofs.Tested.{AllHold, tested_all, tested_join, all_hold}
use Rattle.answer.proofs.Within.{Within, within_tested}
use Rattle.matrix.specs.declared.Layout.{Layout}
use Rattle.matrix.specs.Matrix.{Matrix}
use Rattle.matrix.specs.Grid.{Holds}
use Rattle.matrix.specs.Layouts.{full, Roomy, size_of, lower, Laid}
use Rattle.matrix.specs.Sizes.{size_tests, Fits}
use Rattle.matrix.proofs.Places.{lower_fair}

-- ---- the tests

module _ (y : Layout) (m len : ℕ) where
  fits_hold : Fits y m len → AllHold (size_tests y m len)
  fits_hold f =
      let ordered : y.order ≤ y.room = f.roomy.ordered in
      let small : y.room ≤ 1024 = f.roomy.small in
      let rising : m ≤ y.order = f.rising in (
        le-leb y.room 1024 small,
        (
          le-leb y.order 1024 (omega arith),
          (le-leb m 1024 (omega arith), (le-leb y.order y.room ordered, (le-leb m y.order rising, (eq-eqb len (size_of y) f.long, tt)))),
        ),
      )

  pub hold_fits : AllHold (size_tests y m len) → Fits y m len
  hold_fits h = record {
    roomy = record { ordered = leb-true y.order y.room h.1.1.1.0; small = leb-true y.room 1024 h.0 };
    rising = leb-true m y.order h.1.1.1.1.0;
    long = eqb-true len (size_of y) h.1.1.1.1.1.0;
  }

  pub fits_pass : {A : Type 0} → Fits y m len → (r : Result A Refusal) → tested (size_tests y m len) r ≡ r
  fits_pass f r = tested_all (size_tests y m len) r (fits_hold f)

  pub fits_then : {A : Type 0} → Fits y m len → (more : List Test) (r : Result A Refusal) → tested (size_tests y m len ++ more) r ≡ tested more r
  fits_then f more r = tested_join (size_tests y m len) more r ∙ fits_pass f (tested more r)

  -- what is done fits
  pub done_fits : {A : Type 0} (r : Result A Refusal) → is_done (tested (size_tests y m len) r) ≡ true → Fits y m len
  done_fits r done = hold_fits (all_hold (size_tests y m len) r done).0

  -- the place of what comes after the tests is at most the order, so the answer's is at most 1,024
  pub sizes_within : {A : Type 0} (r : Result A Refusal) → Within y.order r → Within 1024 (tested (size_tests y m len) r)
  sizes_within r last =
      within_tested 1024 (size_tests y m len) r (omega arith, (omega arith, (omega arith, (omega arith, (omega arith, (omega arith, tt))))))
      (λ h. let small : y.order ≤ 1024 = leb-true y.order 1024 h.1.0 in omega (arith, last, small))

  -- what a check let through fits
  pub passed_fits : tested (size_tests y m len) Done ≡ Done → Fits y m len
  passed_fits passed = done_fits Done (ap is_done passed)

-- ---- slices of a layout

pub laid_fits : {y : Layout} {m : ℕ} {l : List Float} → Fits y m (length l) → Laid y l
laid_fits {y} f = record { roomy = f.roomy; sound = record { fair = lower_fair y f.roomy; long = f.long ∙ size y } }
  where
    size : (y : Layout) → size_of y ≡ (lower y).size
    size y = unfold lower in refl

-- what a step leaves
pub laid_after : {y : Layout} {l l₀ l' : List Float} {M : Matrix} → Laid y l → Holds (lower y) l₀ l' M → Laid y l'
laid_after laid step = record { roomy = laid.roomy; sound = step.sound }

pub full_roomy : (n : ℕ) → n ≤ 1024 → Roomy (full n)
full_roomy n small = record { ordered = omega arith; small = small }

pub full_fits : (n len : ℕ) → n ≤ 1024 → len ≡ n * n → Fits (full n) 0 len
unfolding size_of
full_fits n len small long = record { roomy = full_roomy n small; rising = omega arith; long = long }
