-- What `tray` answers and leaves behind, refused or not. A tray holds `count` items of order n, laid end to end: in a their matrices, in `words` their records,
-- in b their right-hand sides, in `runs` their run numbers, in `answers` their answers.
use Rattle.std.specs.Prelude.{List, [], ◌∷◌, ◌≡◌, ℕ, ◌*◌, ◌<◌, leb, eqb, Float, length, get_or}
use Rattle.answer.specs.declared.Refusal.TheVariants.{OutOfRange, MatrixLength, SliceLength}
use Rattle.answer.specs.Answer.{Answer, Done}
use Rattle.answer.specs.Number.{number_of}
use Rattle.answer.specs.Refusals.{Test, ◌otherwise◌, tested, Leaving}
use Rattle.matrix.specs.Columns.{column}
use Rattle.matrix.specs.Layouts.{full}
use Rattle.pivots.specs.Words.{words_of}
use Rattle.lblt.specs.Factor.{Factored}
use Rattle.lblt_solve.specs.Solve.{LbltSolved}

-- the count and the order, the matrices, then the other slices
abbrev pub tray_tests : ℕ → ℕ → List Float → List ℕ → List Float → List ℕ → List ℕ → List Test
tray_tests n count a words b runs answers =
    (leb count 1024 otherwise OutOfRange)
    ∷ (leb n 64 otherwise OutOfRange)
    ∷ (eqb (length a) (n * n * count) otherwise MatrixLength)
    ∷ (eqb (length words) (words_of n * count) otherwise SliceLength)
    ∷ (eqb (length b) (n * count) otherwise SliceLength)
    ∷ (eqb (length runs) count otherwise SliceLength)
    ∷ (eqb (length answers) count otherwise SliceLength)
    ∷ []

-- one item: its factor call, which is done, then its solve call, of one column and with its own run number; `number` is the number of the solve's answer
pub record ItemSolved (n run : ℕ) (a : List Float) (words : List ℕ) (b : List Float) (number : ℕ) (a' : List Float) (words' : List ℕ) (b' : List Float) : Type 0 where
  pub factor : Factored (full n) run a words Done a' words'
  pub answer : Answer
  pub solve : LbltSolved (full n) 1 run a' words' b answer b'
  pub numbered : number ≡ number_of answer

-- the parts of item t
abbrev pub matrix_at : ℕ → ℕ → List Float → List Float
matrix_at n t a = column (n * n) t a

abbrev pub record_at : ℕ → ℕ → List ℕ → List ℕ
record_at n t words = column (words_of n) t words

abbrev pub side_at : ℕ → ℕ → List Float → List Float
side_at n t b = column n t b

-- the run number of item t, or its answer
abbrev pub number_at : ℕ → List ℕ → ℕ
number_at t numbers = get_or numbers t 0

-- item t is solved
abbrev pub ItemAt : ℕ → List Float → List ℕ → List Float → List ℕ → List Float → List ℕ → List Float → List ℕ → ℕ → Type 0
ItemAt n a words b runs a' words' b' answers' t =
    ItemSolved n (number_at t runs) (matrix_at n t a) (record_at n t words) (side_at n t b)
    (number_at t answers') (matrix_at n t a') (record_at n t words') (side_at n t b')

-- done: each item is solved, and no slice has grown or shrunk
pub record EachSolved (n count : ℕ) (a : List Float) (words : List ℕ) (b : List Float) (runs answers : List ℕ) (a' : List Float) (words' : List ℕ) (b' : List Float) (answers' : List ℕ) : Type 0 where
  pub matrices : length a' ≡ length a
  pub records : length words' ≡ length words
  pub sides : length b' ≡ length b
  pub answered : length answers' ≡ length answers
  pub items : (t : ℕ) → t < count → ItemAt n a words b runs a' words' b' answers' t

-- refused: nothing is written
pub record Untouched (a : List Float) (words : List ℕ) (b : List Float) (answers : List ℕ) (a' : List Float) (words' : List ℕ) (b' : List Float) (answers' : List ℕ) : Type 0 where
  pub matrices : a' ≡ a
  pub records : words' ≡ words
  pub sides : b' ≡ b
  pub answered : answers' ≡ answers

pub record TraySolved (n count : ℕ) (a : List Float) (words : List ℕ) (b : List Float) (runs answers : List ℕ) (r : Answer) (a' : List Float) (words' : List ℕ) (b' : List Float) (answers' : List ℕ) : Type 0 where
  pub answer : r ≡ tested (tray_tests n count a words b runs answers) Done
  pub left : Leaving r (EachSolved n count a words b runs answers a' words' b' answers') (Untouched a words b answers a' words' b' answers')
