-- What a further batch promises, whose factor goes into a packed buffer of its own.
use Rattle.std.specs.Prelude.{◌≡◌, List, [], ◌∷◌, ℕ, leb, eqb, length, Float}
use Rattle.answer.specs.declared.Refusal.TheVariants.{OutOfRange, OrderAboveRoom, MatrixLength, SliceLength}
use Rattle.answer.specs.Answer.{Answer, Done}
use Rattle.answer.specs.Refusals.{Test, ◌otherwise◌, tested, Leaving}
use Rattle.matrix.specs.Matrix.{Matrix}
use Rattle.matrix.specs.Grid.{mask}
use Rattle.matrix.specs.Layouts.{packed, entries_of, lower}
use Rattle.packing.specs.Joined.{row_start, joined}
use Rattle.cholesky.specs.Run.{Outcome, factor_columns}
use Rattle.cholesky.specs.Crate.{crate_rule}
use Rattle.cholesky.specs.Leaves.{Leaves}

-- codes 1 to 4, by the lengths of the old factor of m rows, of the rows from m to n, and of the fresh buffer
abbrev pub grow_tests : ℕ → ℕ → ℕ → ℕ → ℕ → List Test
grow_tests m n old rows fresh =
    (leb n 1024 otherwise OutOfRange)
    ∷ (leb m 1024 otherwise OutOfRange)
    ∷ (leb m n otherwise OrderAboveRoom)
    ∷ (eqb old (entries_of m) otherwise MatrixLength)
    ∷ (eqb rows (row_start m n) otherwise SliceLength)
    ∷ (eqb fresh (entries_of n) otherwise SliceLength)
    ∷ []

-- the old factor's rows, then the new ones
abbrev pub handed_in : ℕ → ℕ → List Float → List Float → Matrix
handed_in m n old rows = mask (lower (packed n)) (joined m old rows)

-- all columns of that matrix, the first m rows of which are factored
abbrev pub grown : ℕ → ℕ → List Float → List Float → Outcome
grown m n old rows = factor_columns crate_rule m n (handed_in m n old rows)

-- the fresh buffer packs the outcome; a refusal by size leaves it as it was
pub record Grown (m n : ℕ) (old rows fresh : List Float) (r : Answer) (fresh' : List Float) : Type 0 where
  pub answer : r ≡ tested (grow_tests m n (length old) (length rows) (length fresh)) (grown m n old rows).answer
  pub left : Leaving (tested (grow_tests m n (length old) (length rows) (length fresh)) Done) (Leaves (packed n) fresh fresh' (grown m n old rows).cells) (fresh' ≡ fresh)
