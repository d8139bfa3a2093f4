-- What the engine's parts promise each other. The promise of `factor` does not rest on these.
use Rattle.std.specs.Prelude.{◌≡◌, List, ℕ, Float}
use Rattle.matrix.specs.Matrix.{Matrix}
use Rattle.matrix.specs.Grid.{load, Holds}
use Rattle.matrix.specs.Layouts.{lower}
use Rattle.matrix.specs.declared.Layout.{Layout}
use Rattle.lblt.specs.Step.{State}
use Rattle.pivots.specs.Words.{mark_at}
use Rattle.lblt.specs.Factor.{final_state, Stored}
use Rattle.lblt.specs.declared.Reached.{Reached}

-- the state where the code has reached r, on a matrix and a record
unfoldable pub state_at : Matrix → List ℕ → Reached → State
state_at M words r = record { matrix = M; words = words; row = r.row; mark = r.mark }

-- what the code has reached is the state S: a holds its matrix, over a₀
pub record Stands (y : Layout) (a₀ a : List Float) (words : List ℕ) (r : Reached) (S : State) : Type 0 where
  pub matrix : Holds (lower y) a₀ a S.matrix
  pub pairs : words ≡ S.words
  pub row : r.row ≡ S.row
  pub mark : r.mark ≡ S.mark

-- all steps on a layout: a holds the factor, words the pairs, and the mark is m
pub record Steps (y : Layout) (a : List Float) (words : List ℕ) (a' : List Float) (words' : List ℕ) (m : ℕ) : Type 0 where
  pub matrix : Holds (lower y) a a' (final_state y.order (load (lower y) a) words).matrix
  pub pairs : words' ≡ (final_state y.order (load (lower y) a) words).words
  pub mark : m ≡ (final_state y.order (load (lower y) a) words).mark

-- the whole call after its tests: a holds the factor, words the record, and m is the record's mark
pub record Filled (y : Layout) (run : ℕ) (a : List Float) (words : List ℕ) (a' : List Float) (words' : List ℕ) (m : ℕ) : Type 0 where
  pub stored : Stored y run a words a' words'
  pub mark : m ≡ mark_at y.order words'
