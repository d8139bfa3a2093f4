use Rattle.std.proofs.Common.{ap}
use Rattle.sheet_text.specs.Text.{bits_field, entry_line}
use Rattle.sheet_page.proofs.Wrote.{wrote_then, wrote_same}
use Rattle.sheet_page.proofs.page.Page.entry.Goals as goal

pub returns : goal.returns
unfolding entry_line
returns c =
    wrote_then c.word.ensures (wrote_then c.field.ensures (wrote_then c.field-2.ensures (wrote_same (ap bits_field c.to_bits.ensures) c.bits.ensures)))
