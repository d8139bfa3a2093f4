-- The refusals by size of a call on a slice of `len` numbers, which is to be one of the layout y; the first m rows came earlier.
use Rattle.std.specs.Prelude.{◌≡◌, List, [], ◌∷◌, ℕ, ◌≤◌, leb, eqb, length, Float}
use Rattle.answer.specs.declared.Refusal.TheVariants.{OutOfRange, OrderAboveRoom, MatrixLength}
use Rattle.answer.specs.Answer.{Answer, Done}
use Rattle.answer.specs.Refusals.{Test, ◌otherwise◌, tested}
use Rattle.matrix.specs.declared.Layout.{Layout}
use Rattle.matrix.specs.Layouts.{Roomy, size_of}

abbrev pub size_tests : Layout → ℕ → ℕ → List Test
size_tests y m len =
    (leb y.room 1024 otherwise OutOfRange)
    ∷ (leb y.order 1024 otherwise OutOfRange)
    ∷ (leb m 1024 otherwise OutOfRange)
    ∷ (leb y.order y.room otherwise OrderAboveRoom)
    ∷ (leb m y.order otherwise OrderAboveRoom)
    ∷ (eqb len (size_of y) otherwise MatrixLength)
    ∷ []

-- what they answer: done, or the refusal of the first that fails
abbrev pub sizes_of : Layout → ℕ → List Float → Answer
sizes_of y m l = tested (size_tests y m (length l)) Done

-- all of these tests hold
pub record Fits (y : Layout) (m len : ℕ) : Type 0 where
  pub roomy : Roomy y
  pub rising : m ≤ y.order
  pub long : len ≡ size_of y
