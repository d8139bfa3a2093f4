-- What a worked case says: any answer and memory that meet the promises of its calls, and so what the calls answer and leave, are the numbers beside it.
-- A float is given by its bits, and so is a signed number; a matrix by the slice that is lent, column by column.
use Rattle.std.specs.Prelude.{List, [], ◌∷◌, map, false, ◌≡◌, ℕ, ◌*◌, ◌<◌, length, replicate, take, drop, ℤ, pos, Float, Result}
use Rattle.std.specs.Result.{result_unwrap_or}
use Rattle.std.specs.Float.{binary64}
use Rattle.std.specs.Float.Ieee.{of_bits, to_bits}
use Rattle.std.specs.Int.{w32}
use Rattle.std.proofs.Common.{of_z}
use Rattle.answer.specs.declared.Refusal.{Refusal}
use Rattle.answer.specs.Answer.{Answer, Done, is_done}
use Rattle.answer.specs.Number.{code_of, place_of}
use Rattle.answer.specs.Refusals.{tested}
use Rattle.leaf.specs.Root.{root_of}
use Rattle.matrix.specs.Rounded.{plus_zero}
use Rattle.matrix.specs.Grid.{load}
use Rattle.matrix.specs.Layouts.{full, in_room, packed, entries_of, lower}
use Rattle.pivots.specs.Words.{words_of}
use Rattle.pivots_lapack.specs.declared.Stamp.{Stamp}
use Rattle.pivots_lapack.specs.Calls.{ListRead, ListWritten}
use Rattle.lblt_choice.specs.declared.Largest.{Largest}
use Rattle.lblt_choice.specs.Choice.{column_max}
use Rattle.lblt.specs.Factor.{Factored}
use Rattle.lblt_read.specs.Calls.{LbltDetermined, LbltFilled}
use Rattle.lblt_read.specs.Diagonal.{d_of}
use Rattle.lblt_read.specs.Permuted.{l_permuted_of}
use Rattle.lblt_solve.specs.Solve.{LbltSolved}
use Rattle.lblt_bench.specs.Bench.{BenchSolved}
use Rattle.lblt_tray.specs.Tray.{matrix_at, record_at, side_at, number_at, TraySolved}
use Rattle.handheld.specs.declared.Column3.{Column3}
use Rattle.handheld.specs.declared.Factored.{Factored as Factored3}
use Rattle.handheld.specs.Shapes as handheld
use Rattle.handheld.specs.Promise.{FactoredByValue, left_by, SolvedByValue}
use Rattle.cholesky.specs.declared.Floored.{Floored}
use Rattle.cholesky.specs.Promise.{Extended}
use Rattle.cholesky.specs.Floored.{ExtendedFloored}
use Rattle.cholesky.specs.Solve.{CholeskySolved}
use Rattle.teaching.specs.Promise.{Taught}
use Rattle.packed.specs.Growing.{grow_tests, Grown}
use Rattle.udu.specs.Promise.{UduFactored}

unfoldable pub floats : List ℕ → List Float
floats [] = []
floats (b ∷ bs) = of_bits binary64 b ∷ floats bs

unfoldable pub bits_of : List Float → List ℕ
bits_of [] = []
bits_of (x ∷ xs) = to_bits binary64 x ∷ bits_of xs

-- three numbers, and three columns of them
abbrev pub column_in : List ℕ → Column3
column_in bs = record { row = floats bs }

abbrev pub columns_in : List ℕ → List Column3
columns_in bs = column_in (take 3 bs) ∷ column_in (take 3 (drop 3 bs)) ∷ column_in (drop 6 bs) ∷ []

abbrev pub signed_bits : List ℤ → List ℕ
signed_bits = map (of_z w32)

-- an answer's code and place
abbrev pub answered : {A : Type 0} → Result A Refusal → List ℕ
answered a = code_of a ∷ place_of a ∷ []

-- a determinant's bits, those of +0 where it is refused
abbrev pub value_bits : Result Float Refusal → ℕ
value_bits v = to_bits binary64 (result_unwrap_or v plus_zero)

-- INFO and the run number of a list, 0 where it is refused
abbrev pub stamp_words : Result Stamp Refusal → List ℕ
stamp_words r = let stamp = result_unwrap_or r (record { info = pos 0; run = 0 }) in of_z w32 stamp.info ∷ stamp.run ∷ []

-- 99: it stands where nothing is to be read, and in what is lent to be written
abbrev pub stray : ℕ
stray = 0x4058_c000_0000_0000

abbrev pub lent_words : ℕ → List ℕ
lent_words n = replicate (words_of n) 99

abbrev pub lent_list : ℕ → List ℤ
lent_list n = replicate n (pos 99)

abbrev pub lent_floats : ℕ → List Float
lent_floats count = replicate count (of_bits binary64 stray)

-- a is the slice that is factored, of order n, with the number `run`; b is one right-hand side, or `columns` of them with a list of benches; a reader of
-- LBLT's factor expects the number `expected`; a tray has `count` of all these, one after the other
pub data Call : Type 0 where
  lblt_factor : (n run : ℕ) (a : List ℕ) → Call
  lblt_determinant : (n run expected : ℕ) (a : List ℕ) → Call
  lblt_solve : (n run expected : ℕ) (a b : List ℕ) → Call
  lblt_solve_bench : (n run expected columns bench : ℕ) (benches a b : List ℕ) → Call
  lblt_tray : (n count : ℕ) (runs a b : List ℕ) (t : ℕ) → Call
  lblt_readers : (n expected : ℕ) (words : List ℕ) → Call
  lblt_largest : (n : ℕ) (a : List ℕ) (k : ℕ) → Call
  handheld_factor : (a : List ℕ) → Call
  handheld_solve : (a b : List ℕ) → Call
  handheld_pivots : (index size : List ℕ) (mark : ℕ) → Call
  pivots_from_lapack : (n run : ℕ) (list : List ℤ) (info : ℤ) → Call
  pivots_to_lapack : (n : ℕ) (words : List ℕ) → Call
  cholesky_factor : (room n : ℕ) (a : List ℕ) → Call
  cholesky_extend_floored : (room m n floor : ℕ) (a : List ℕ) → Call
  cholesky_teaching : (room n : ℕ) (a : List ℕ) → Call
  cholesky_solve : (room n : ℕ) (a b : List ℕ) → Call
  cholesky_solve_sizes : (room n columns factor sides : ℕ) → Call
  packed_lblt_factor : (n run : ℕ) (a : List ℕ) → Call
  packed_lblt_determinant : (n run expected : ℕ) (a : List ℕ) → Call
  packed_lblt_solve : (n run expected : ℕ) (a b : List ℕ) → Call
  packed_cholesky_factor : (n : ℕ) (a : List ℕ) → Call
  packed_cholesky_extend : (m n : ℕ) (old rows : List ℕ) → Call
  packed_cholesky_solve : (n : ℕ) (a b : List ℕ) → Call
  packed_extend_sizes : (m n old rows fresh : ℕ) → Call
  udu_factor : (n : ℕ) (p : List ℕ) → Call
  root : (x : ℕ) → Call

abbrev pub Gives : Call → List (List ℕ) → Type 0
-- the answer, the record, the slice
Gives (lblt_factor n run a) numbers =
    (r : Answer) (a' : List Float) (words : List ℕ) → Factored (full n) run (floats a) (lent_words n) r a' words
    → (answered r ∷ words ∷ bits_of a' ∷ []) ≡ numbers
-- by what the factor leaves: the answer, the value
Gives (lblt_determinant n run expected a) numbers =
    (r : Answer) (a' : List Float) (words : List ℕ) (v : Result Float Refusal) → Factored (full n) run (floats a) (lent_words n) r a' words → LbltDetermined (full n) expected a' words v
    → (answered v ∷ (value_bits v ∷ []) ∷ []) ≡ numbers
-- by what the factor leaves: the answer, the right-hand side
Gives (lblt_solve n run expected a b) numbers =
    (r s : Answer) (a' b' : List Float) (words : List ℕ) → Factored (full n) run (floats a) (lent_words n) r a' words → LbltSolved (full n) 1 expected a' words (floats b) s b'
    → (answered s ∷ bits_of b' ∷ []) ≡ numbers
-- by what the factor leaves: the answer, the right-hand sides
Gives (lblt_solve_bench n run expected columns bench benches a b) numbers =
    (r s : Answer) (a' b' : List Float) (words : List ℕ) → Factored (full n) run (floats a) (lent_words n) r a' words
    → BenchSolved (full n) columns bench expected a' words (floats b) benches s b'
    → (answered s ∷ bits_of b' ∷ []) ≡ numbers
-- a tray: its own answer; and of its item t the number of the answer, the record, the slice, the right-hand side
Gives (lblt_tray n count runs a b t) numbers =
    (r : Answer) (a' : List Float) (words : List ℕ) (b' : List Float) (answers : List ℕ)
    → TraySolved n count (floats a) (replicate (words_of n * count) 99) (floats b) runs (replicate count 99) r a' words b' answers → t < count
    → (answered r ∷ (number_at t answers ∷ []) ∷ record_at n t words ∷ bits_of (matrix_at n t a') ∷ bits_of (side_at n t b') ∷ []) ≡ numbers
-- by these words as the record, whatever numbers are lent in slices that fit: what solve, determinant, d and l_permuted answer
Gives (lblt_readers n expected words) numbers =
    (r s t : Answer) (v : Result Float Refusal) (a b b' d d' l l' : List Float) → length a ≡ n * n → length b ≡ n → length d ≡ n * n → length l ≡ n * n
    → LbltSolved (full n) 1 expected a words b r b' → LbltDetermined (full n) expected a words v
    → LbltFilled (full n) expected a words (d_of n (load (lower (full n)) a) words) d s d'
    → LbltFilled (full n) expected a words (l_permuted_of n (load (lower (full n)) a) words) l t l'
    → (answered r ∷ answered v ∷ answered s ∷ answered t ∷ []) ≡ numbers
-- by value: the pivots, as a record with the number 0, and the nine numbers
Gives (handheld_factor a) numbers = (r : Factored3) → FactoredByValue (columns_in a) r → (handheld.record_of 0 r.pivots ∷ bits_of (handheld.numbers_of r.matrix) ∷ []) ≡ numbers
-- by what that factor gives: the answer, the side
Gives (handheld_solve a b) numbers =
    (r : Factored3) (s : Result Column3 Refusal) → FactoredByValue (columns_in a) r → SolvedByValue r.matrix r.pivots (column_in b) s
    → (answered s ∷ bits_of (left_by (column_in b) s).row ∷ []) ≡ numbers
-- by these pivots, whatever the nine numbers and the side: the answer
Gives (handheld_pivots index size mark) numbers =
    (matrix : List Column3) (side : Column3) (s : Result Column3 Refusal) → handheld.Square matrix → length side.row ≡ 3
    → SolvedByValue matrix (record { index = index; size = size; mark = mark }) side s → (answered s ∷ []) ≡ numbers
-- the answer, the record
Gives (pivots_from_lapack n run list info) numbers =
    (r : Answer) (words : List ℕ) → ListRead n run list info (lent_words n) r words → (answered r ∷ words ∷ []) ≡ numbers
-- the answer, the list, INFO and the run number
Gives (pivots_to_lapack n words) numbers =
    (r : Result Stamp Refusal) (list : List ℤ) → ListWritten n words (lent_list n) r list
    → (answered r ∷ signed_bits list ∷ stamp_words r ∷ []) ≡ numbers
-- the row imax of column k
Gives (lblt_largest n a k) numbers = (r : Largest) → r ≡ column_max n (load (lower (full n)) (floats a)) k → ((r.imax ∷ []) ∷ []) ≡ numbers
-- the answer, the slice
Gives (cholesky_factor room n a) numbers = (r : Answer) (l : List Float) → Extended (in_room n room) 0 (floats a) l r → (answered r ∷ bits_of l ∷ []) ≡ numbers
-- the answer, how many columns used the floor, the slice
Gives (cholesky_extend_floored room m n floor a) numbers =
    (r : Floored) (l : List Float) → ExtendedFloored (of_bits binary64 floor) (in_room n room) m (floats a) l r → (answered r.answer ∷ (r.used ∷ []) ∷ bits_of l ∷ []) ≡ numbers
-- the answer, the slice
Gives (cholesky_teaching room n a) numbers = (r : Answer) (l : List Float) → Taught room n (floats a) l r → (answered r ∷ bits_of l ∷ []) ≡ numbers
-- by what the factor leaves: the answer, the right-hand side
Gives (cholesky_solve room n a b) numbers =
    (r s : Answer) (l c : List Float) → Extended (in_room n room) 0 (floats a) l r → CholeskySolved (in_room n room) 1 l (floats b) c s
    → (answered s ∷ bits_of c ∷ []) ≡ numbers
-- by the lengths alone: the answer
Gives (cholesky_solve_sizes room n columns factor sides) numbers =
    (r : Answer) (a b c : List Float) → length a ≡ factor → length b ≡ sides → CholeskySolved (in_room n room) columns a b c r
    → (answered r ∷ []) ≡ numbers
-- on packed triangles the same as above
Gives (packed_lblt_factor n run a) numbers =
    (r : Answer) (a' : List Float) (words : List ℕ) → Factored (packed n) run (floats a) (lent_words n) r a' words
    → (answered r ∷ words ∷ bits_of a' ∷ []) ≡ numbers
Gives (packed_lblt_determinant n run expected a) numbers =
    (r : Answer) (a' : List Float) (words : List ℕ) (v : Result Float Refusal) → Factored (packed n) run (floats a) (lent_words n) r a' words → LbltDetermined (packed n) expected a' words v
    → (answered v ∷ (value_bits v ∷ []) ∷ []) ≡ numbers
Gives (packed_lblt_solve n run expected a b) numbers =
    (r s : Answer) (a' b' : List Float) (words : List ℕ) → Factored (packed n) run (floats a) (lent_words n) r a' words → LbltSolved (packed n) 1 expected a' words (floats b) s b'
    → (answered s ∷ bits_of b' ∷ []) ≡ numbers
Gives (packed_cholesky_factor n a) numbers = (r : Answer) (l : List Float) → Extended (packed n) 0 (floats a) l r → (answered r ∷ bits_of l ∷ []) ≡ numbers
-- the answer, the fresh buffer
Gives (packed_cholesky_extend m n old rows) numbers =
    (r : Answer) (fresh : List Float) → Grown m n (floats old) (floats rows) (lent_floats (entries_of n)) r fresh → (answered r ∷ bits_of fresh ∷ []) ≡ numbers
Gives (packed_cholesky_solve n a b) numbers =
    (r s : Answer) (l c : List Float) → Extended (packed n) 0 (floats a) l r → CholeskySolved (packed n) 1 l (floats b) c s
    → (answered s ∷ bits_of c ∷ []) ≡ numbers
-- by the lengths alone, where they are refused: the answer
Gives (packed_extend_sizes m n old rows fresh) numbers =
    (r : Answer) (a b c c' : List Float) → length a ≡ old → length b ≡ rows → length c ≡ fresh → is_done (tested (grow_tests m n old rows fresh) Done) ≡ false
    → Grown m n a b c r c' → (answered r ∷ []) ≡ numbers
-- the answer, u, d
Gives (udu_factor n p) numbers =
    (r : Answer) (u d : List Float) → UduFactored (floats p) (lent_floats (n * n)) (lent_floats n) n r u d
    → (answered r ∷ bits_of u ∷ bits_of d ∷ []) ≡ numbers
Gives (root x) numbers = (r : Float) → r ≡ root_of (of_bits binary64 x) → ((to_bits binary64 r ∷ []) ∷ []) ≡ numbers

pub record Case : Type 0 where
  pub call : Call
  pub numbers : List (List ℕ)

infix 3 ◌⇒◌
abbrev pub ◌⇒◌ : Call → List (List ℕ) → Case
call ⇒ numbers = record { call = call; numbers = numbers }

-- each case of a table holds
pub data Hold : List Case → Type 0 where
  none : Hold []
  more : (c : Case) (cs : List Case) → Gives c.call c.numbers → Hold cs → Hold (c ∷ cs)
