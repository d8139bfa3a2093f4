use Rattle.sheet_text.specs.Text.{field}
use Rattle.sheet_page.proofs.Wrote.{wrote_then}
use Rattle.sheet_page.proofs.page.Page.field.Goals as goal

pub returns : goal.returns
unfolding field
returns c = wrote_then c.number.ensures c.byte.ensures
