use Rattle.sheet_page.proofs.Wrote.{wrote_then}
use Rattle.sheet_page.proofs.page.Page.pair_line.Goals as goal

pub returns : goal.returns
returns c = wrote_then c.word.ensures (wrote_then c.field.ensures c.field-2.ensures)
