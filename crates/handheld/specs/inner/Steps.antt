-- The states of the lent steps at order 3, by the triangle that the code has.
use Rattle.std.specs.Prelude.{◌≡◌, List, [], ◌∷◌, ℕ}
use Rattle.pivots.specs.Words.{marked, stamped}
use Rattle.lblt.specs.Step.{State}
use Rattle.handheld.specs.declared.Triangle.{Triangle}
use Rattle.handheld.specs.declared.steps.Stepped.{Stepped}
use Rattle.handheld.specs.Shapes.{Paired, record_of}
use Rattle.handheld.specs.inner.Triangle.{matrix_of}

-- a record of which nothing is written yet
abbrev pub blank : List ℕ
blank = 0 ∷ 0 ∷ 0 ∷ 0 ∷ 0 ∷ 0 ∷ 0 ∷ 0 ∷ []

unfoldable pub state_of : Triangle → List ℕ → ℕ → ℕ → State
state_of t words row mark = record { matrix = matrix_of t; words = words; row = row; mark = mark }

-- the code has come to the state S: its triangle is the matrix, its pivots are the record
pub record Comes (r : Stepped) (S : State) : Type 0 where
  pub matrix : S.matrix ≡ matrix_of r.lower
  pub paired : Paired r.pivots
  pub words : stamped 3 (marked 3 S.words S.mark) 0 ≡ record_of 0 r.pivots
