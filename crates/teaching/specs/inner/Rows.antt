-- Row after row: what the engine's parts promise to each other, over a rule for the diagonal.
use Rattle.std.specs.Prelude.{◌≡◌, cond, List, ℕ, Float}
use Rattle.answer.specs.Answer.{Answer, Done, is_done}
use Rattle.matrix.specs.declared.Layout.{Layout}
use Rattle.matrix.specs.Matrix.{Matrix, entry}
use Rattle.matrix.specs.Loop.{for}
use Rattle.matrix.specs.Grid.{Holds, load}
use Rattle.matrix.specs.Layouts.{lower}
use Rattle.matrix.specs.Rounded.{◌⊘◌}
use Rattle.cholesky.specs.Column.{updated}
use Rattle.cholesky.specs.Run.{Rule, Outcome, started}

-- entry (r, c), left of the diagonal: less what the columns before c take, and divided by the diagonal of row c
unfoldable pub left_of : ℕ → ℕ → Matrix → Matrix
left_of r c M = entry M r c (updated M c c r ⊘ M c c)

-- the diagonal of row r, less what the columns before it take: its root where it passes, else it stays
unfoldable pub on_diagonal : Rule → ℕ → Matrix → Outcome
on_diagonal ρ r M =
    cond (is_done (ρ.verdict (updated M r r r) r))
    (record { answer = Done; cells = entry M r r (ρ.root (updated M r r r)) })
    (record { answer = ρ.verdict (updated M r r r) r; cells = entry M r r (updated M r r r) })

-- row r from left to right, its diagonal last
unfoldable pub last_row : Rule → ℕ → Matrix → Outcome
unfolding left_of on_diagonal
last_row ρ r M = on_diagonal ρ r (for 0 r (left_of r) M)

-- nothing is done after a refusal
unfoldable pub row_after : Rule → ℕ → Outcome → Outcome
unfolding last_row
row_after ρ r o = cond (is_done o.answer) (last_row ρ r o.cells) o

-- the first n rows
unfoldable pub by_rows : Rule → ℕ → Matrix → Outcome
unfolding row_after
by_rows ρ n A = for 0 n (row_after ρ) (started A)

-- what comes of some work on the matrix in l₀: its answer, and its cells in the lower triangle of l; all else is as in l₀
pub record Does (y : Layout) (work : Matrix → Outcome) (l₀ l : List Float) (r : Answer) : Type 0 where
  pub answer : r ≡ (work (load (lower y) l₀)).answer
  pub holds : Holds (lower y) l₀ l (work (load (lower y) l₀)).cells
