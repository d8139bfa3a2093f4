-- Cholesky over a rule for the diagonal. Rows are unlimited: the order is the number of columns, and what a slice stores.
use Rattle.std.specs.Prelude.{cond, ℕ, ◌+◌, ltb, Float}
use Rattle.answer.specs.Answer.{Answer, Done, is_done}
use Rattle.matrix.specs.Matrix.{Matrix, entry}
use Rattle.matrix.specs.Loop.{for}
use Rattle.cholesky.specs.Column.{updated, divided, part}

-- What is answered to a diagonal at a column, `Done` if it passes, and what then stands there.
pub record Rule : Type 0 where
  pub verdict : Float → ℕ → Answer
  pub root : Float → Float

pub record Outcome : Type 0 where
  pub answer : Answer
  pub cells : Matrix

-- the rows from r on of column j, updated by the columns before it
unfoldable pub updates : ℕ → ℕ → Matrix → Matrix
unfolding part updated
updates r j M = part r j (updated M j j) M

-- the rows from r on of column j divided by the diagonal
unfoldable pub below : ℕ → ℕ → Matrix → Matrix
unfolding part divided
below r j M = part r j (divided M j (M j j)) M

-- the updated column j of the earlier rows: only the rows from m on are divided
unfoldable pub continued : ℕ → ℕ → Matrix → Outcome
unfolding below
continued m j U = record { answer = Done; cells = below m j U }

-- the updated column j is judged: refused it stays, else it gets its root and the rows below are divided by that
unfoldable pub judged_column : Rule → ℕ → Matrix → Outcome
unfolding below entry
judged_column ρ j U =
    cond (is_done (ρ.verdict (U j j) j))
    (record { answer = Done; cells = below (j + 1) j (entry U j j (ρ.root (U j j))) })
    (record { answer = ρ.verdict (U j j) j; cells = U })

-- column j of a batch whose rows start at m
unfoldable pub worked : Rule → ℕ → ℕ → Matrix → Outcome
unfolding updates continued judged_column
worked ρ m j M = cond (ltb j m) (continued m j (updates m j M)) (judged_column ρ j (updates j j M))

-- nothing is done after a refusal
unfoldable pub factor_column : Rule → ℕ → ℕ → Outcome → Outcome
unfolding worked
factor_column ρ m j o = cond (is_done o.answer) (worked ρ m j o.cells) o

abbrev pub started : Matrix → Outcome
started A = record { answer = Done; cells = A }

-- n columns of a batch whose rows start at m
unfoldable pub factor_columns : Rule → ℕ → ℕ → Matrix → Outcome
unfolding factor_column
factor_columns ρ m n A = for 0 n (factor_column ρ m) (started A)
