-- What `factor` promises, of the lower triangle of a layout y. The call's layout is `full n`, the packed call's `packed n`.
use Rattle.std.specs.Prelude.{◌≡◌, List, [], ◌∷◌, ◌++◌, ℕ, eqb, length, Float}
use Rattle.answer.specs.declared.Refusal.TheVariants.{SliceLength}
use Rattle.answer.specs.Answer.{Answer, Done}
use Rattle.answer.specs.Refusals.{Test, ◌otherwise◌, tested, Leaving}
use Rattle.matrix.specs.Matrix.{Matrix}
use Rattle.matrix.specs.Grid.{load, Holds}
use Rattle.matrix.specs.Layouts.{lower}
use Rattle.matrix.specs.Sizes.{size_tests}
use Rattle.matrix.specs.declared.Layout.{Layout}
use Rattle.pivots.specs.Words.{words_of, marked, stamped}
use Rattle.lblt.specs.Step.{State, stepped}

-- the order and the matrix, then the record
abbrev pub factor_tests : Layout → List Float → List ℕ → List Test
factor_tests y a words = size_tests y 0 (length a) ++ ((eqb (length words) (words_of y.order) otherwise SliceLength) ∷ [])

unfoldable pub first_state : Matrix → List ℕ → State
first_state M words = record { matrix = M; words = words; row = 0; mark = 0 }

-- the state after all steps
unfoldable pub final_state : ℕ → Matrix → List ℕ → State
final_state n M words = stepped n n (first_state M words)

-- the record after all steps: their pairs, the mark, the run number
unfoldable pub recorded : ℕ → ℕ → Matrix → List ℕ → List ℕ
recorded n run M words = stamped n (marked n (final_state n M words).words (final_state n M words).mark) run

-- done: a holds the factor, words the record
pub record Stored (y : Layout) (run : ℕ) (a : List Float) (words : List ℕ) (a' : List Float) (words' : List ℕ) : Type 0 where
  pub matrix : Holds (lower y) a a' (final_state y.order (load (lower y) a) words).matrix
  pub pivots : words' ≡ recorded y.order run (load (lower y) a) words

-- refused: nothing is written
pub record Untouched (a : List Float) (words : List ℕ) (a' : List Float) (words' : List ℕ) : Type 0 where
  pub matrix : a' ≡ a
  pub pivots : words' ≡ words

pub record Factored (y : Layout) (run : ℕ) (a : List Float) (words : List ℕ) (r : Answer) (a' : List Float) (words' : List ℕ) : Type 0 where
  pub answer : r ≡ tested (factor_tests y a words) Done
  pub left : Leaving r (Stored y run a words a' words') (Untouched a words a' words')
