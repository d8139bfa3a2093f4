-- What the readers of an LBLT factor answer and leave behind, refused ones too. a is to be a slice of the layout y, `words` the record of its order,
-- with the number `run`; the calls' layout is `full n`, that of the packed determinant `packed n`.
use Rattle.std.specs.Prelude.{List, [], ◌∷◌, ◌++◌, ◌≡◌, ℕ, ◌*◌, eqb, leb, Float, length, Result, Ok}
use Rattle.answer.specs.declared.Refusal.{Refusal}
use Rattle.answer.specs.declared.Refusal.TheVariants.{OutOfRange, SliceLength, OtherRun}
use Rattle.answer.specs.Answer.{Answer, Done}
use Rattle.answer.specs.Refusals.{Test, ◌otherwise◌, tested, Leaving}
use Rattle.matrix.specs.declared.Layout.{Layout}
use Rattle.matrix.specs.Matrix.{Matrix}
use Rattle.matrix.specs.Grid.{load}
use Rattle.matrix.specs.Layouts.{lower, Fills}
use Rattle.matrix.specs.Sizes.{size_tests}
use Rattle.pivots.specs.Words.{words_of, run_at}
use Rattle.pivots.specs.Rule.{record_tests}
use Rattle.lblt_read.specs.Diagonal.{determinant_of}

-- the record: its length, its rule, its run number
abbrev pub word_tests : ℕ → ℕ → List ℕ → List Test
word_tests n run words = (eqb (length words) (words_of n) otherwise SliceLength) ∷ (record_tests n words ++ ((eqb (run_at n words) run otherwise OtherRun) ∷ []))

-- the factor, then the record
abbrev pub reader_tests : Layout → ℕ → List Float → List ℕ → List Test
reader_tests y run a words = size_tests y 0 (length a) ++ word_tests y.order run words

-- the factor, and a slice of columns besides
abbrev pub side_tests : Layout → ℕ → List Float → List Float → List Test
side_tests y columns a b =
    (leb columns 1024 otherwise OutOfRange)
    ∷ (size_tests y 0 (length a) ++ ((eqb (length b) (y.order * columns) otherwise SliceLength) ∷ []))

-- these, then the record
abbrev pub column_tests : Layout → ℕ → ℕ → List Float → List ℕ → List Float → List Test
column_tests y columns run a words b = side_tests y columns a b ++ word_tests y.order run words

-- the determinant where done
pub record LbltDetermined (y : Layout) (run : ℕ) (a : List Float) (words : List ℕ) (r : Result Float Refusal) : Type 0 where
  pub answer : r ≡ tested (reader_tests y run a words) (Ok (determinant_of y.order (load (lower y) a) words))

-- a matrix M is filled in where done, and as it was where refused
pub record LbltFilled (y : Layout) (run : ℕ) (a : List Float) (words : List ℕ) (M : Matrix) (l : List Float) (r : Answer) (l' : List Float) : Type 0 where
  pub answer : r ≡ tested (column_tests y y.order run a words l) Done
  pub left : Leaving r (Fills y.order l' M) (l' ≡ l)
