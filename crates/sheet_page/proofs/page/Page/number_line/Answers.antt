use Rattle.sheet_text.specs.Text.{number_line}
use Rattle.sheet_page.proofs.Wrote.{wrote_then}
use Rattle.sheet_page.proofs.page.Page.number_line.Goals as goal

pub returns : goal.returns
unfolding number_line
returns c = wrote_then c.word.ensures c.field.ensures
