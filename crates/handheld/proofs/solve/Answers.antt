-- `solve` meets its promise. Assumes nothing.
use Rattle.handheld.proofs.Records.{last_index}
use Rattle.handheld.proofs.Answers.{solve_accepted, solve_done}
use Rattle.handheld.proofs.solve.Goals as goal

pub of_columns-n-requires : goal.of_columns-n-requires
of_columns-n-requires c = last_index c.args.pivots (solve_accepted c.args.matrix c.args.pivots c.args.side c.in_ok-check.ensures)

pub of_column-b-requires : goal.of_column-b-requires
of_column-b-requires c = last_index c.args.pivots (solve_accepted c.args.matrix c.args.pivots c.args.side c.in_ok-check.ensures)

pub by_blocks-s-requires : goal.by_blocks-s-requires
by_blocks-s-requires c = solve_accepted c.args.matrix c.args.pivots c.args.side c.in_ok-check.ensures

pub returns : goal.returns
returns c = solve_done c.args.matrix c.args.pivots c.args.side c.in_ok-check.ensures c.of_columns-n.ensures c.of_column-b.ensures (λ run. rw c.lower.ensures at (c.by_blocks-s.ensures run))
