-- The lines of the rows from `row` on are still to come.
use Rattle.sheet_text.specs.Sheet.{join}
use Rattle.sheet_page.specs.Page.{pivot_lines}
use Rattle.sheet_page.proofs.Loops.{ToGo, pivot_text}
use Rattle.sheet_page.proofs.page.Page.pivots.Given as goal

abbrev pub invariant-loop-row : goal.invariant-loop-row
invariant-loop-row l = ToGo l.initial.self (join (pivot_lines l.words 0 l.n)) l.self (pivot_text l.words l.n l.row)
