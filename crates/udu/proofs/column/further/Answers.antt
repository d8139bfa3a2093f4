-- `further` meets its contract. Assumes nothing.
use Rattle.std.proofs.Common.{true, false}
use Rattle.strips.proofs.Strips.{strip_nothing}
use Rattle.udu.proofs.Entries.{further_diagonal, further_entries, column_step}
use Rattle.udu.proofs.column.further.Goals as goal

pub returns-then-x : goal.returns-then-x
returns-then-x c = column_step true (further_diagonal _ _ _ _ _ _ c.requires.j_bound c.squares.ensures) c.if-x.true strip_nothing

pub returns : goal.returns
returns c = column_step false (further_diagonal _ _ _ _ _ _ c.requires.j_bound c.squares.ensures) c.if-x.false (further_entries _ _ _ _ _ c.requires.j_bound c.entries.ensures)
