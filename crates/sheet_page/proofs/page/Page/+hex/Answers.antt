use Rattle.sheet_page.proofs.Wrote.{wrote_none, wrote_then, wrote_same, no_hex, more_hex}
use Rattle.sheet_page.proofs.page.Page.+hex.Goals as goal

pub returns-then-digits-gt0 : goal.returns-then-digits-gt0
returns-then-digits-gt0 t c =
    wrote_same (more_hex c.args.digits c.args.bits c.if-digits-gt0.true) (wrote_then c.hex.ensures c.digit.ensures)

pub returns-else-digits-gt0 : goal.returns-else-digits-gt0
returns-else-digits-gt0 t c = wrote_same (no_hex c.args.digits c.args.bits c.if-digits-gt0.false) (wrote_none c.args.self.now)
