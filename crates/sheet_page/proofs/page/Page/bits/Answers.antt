use Rattle.sheet_text.specs.Text.{bits_field}
use Rattle.sheet_page.proofs.Wrote.{wrote_then}
use Rattle.sheet_page.proofs.page.Page.bits.Goals as goal

pub returns : goal.returns
unfolding bits_field
returns c = wrote_then c.hex.ensures c.byte.ensures
