-- What `solve_mut` leaves in a column depends on the factor, the record and that column alone.
use Rattle.std.proofs.Common.{true, List, ◌≡◌, ap, ◌∙◌, ℕ, ◌<◌, Float}
use Rattle.answer.specs.Answer.{Answer, is_done}
use Rattle.matrix.specs.declared.Layout.{Layout}
use Rattle.matrix.specs.Grid.{load}
use Rattle.matrix.specs.Layouts.{lower}
use Rattle.matrix.specs.Columns.{column}
use Rattle.matrix.proofs.Columns.{each_column_law}
use Rattle.lblt_solve_columns.specs.Column.{solve_column}
use Rattle.lblt_solve_columns.proofs.Keeps.{solve_keeps}
use Rattle.lblt_solve.specs.Solve.{LbltSolved}
use Rattle.lblt_solve.proofs.Marked.{solver_admitted}

pub lblt_column_solved
    : {y : Layout} {columns run : ℕ} {a : List Float} {words : List ℕ} {b : List Float} {r : Answer} {b' : List Float}
    → LbltSolved y columns run a words b r b' → is_done r ≡ true
    → (j : ℕ) → j < columns
    → column y.order j b' ≡ solve_column y.order (load (lower y) a) words (column y.order j b)
lblt_column_solved {y} {columns} {run} {a} {words} {b} s done j below =
    let known = solver_admitted y columns run a words b s.answer done in
    ap (column y.order j) (s.sides ∙ rw done)
    ∙ each_column_law y.order (solve_column y.order (load (lower y) a) words) (solve_keeps y.order (load (lower y) a) words) columns b known.long j below
