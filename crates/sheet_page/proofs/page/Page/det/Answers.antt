use Rattle.std.proofs.Common.{ap}
use Rattle.sheet_text.specs.Text.{bits_field}
use Rattle.sheet_page.specs.Page.{det_line}
use Rattle.sheet_page.proofs.Wrote.{wrote_then, wrote_same}
use Rattle.sheet_page.proofs.page.Page.det.Goals as goal

pub returns : goal.returns
unfolding det_line
returns c = wrote_then c.word.ensures (wrote_same (ap bits_field c.to_bits.ensures) c.bits.ensures)
