-- The first bytes of the word stand.
use Rattle.std.proofs.Common.{take}
use Rattle.sheet_page.specs.inner.Wrote.{Wrote}
use Rattle.sheet_page.proofs.page.Page.word.Given as goal

abbrev pub invariant-loop-b : goal.invariant-loop-b
invariant-loop-b l = Wrote l.initial.self (take l.b-index l.word) l.self
