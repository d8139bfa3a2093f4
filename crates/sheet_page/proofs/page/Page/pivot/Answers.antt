use Rattle.sheet_page.specs.Page.{pivot_line}
use Rattle.sheet_page.proofs.Wrote.{wrote_then}
use Rattle.sheet_page.proofs.page.Page.pivot.Goals as goal

pub returns : goal.returns
unfolding pivot_line
returns c = wrote_then c.word.ensures (wrote_then c.field.ensures (wrote_then c.field-2.ensures c.field-3.ensures))
