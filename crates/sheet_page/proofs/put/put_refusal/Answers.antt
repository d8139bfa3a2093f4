use Rattle.std.proofs.Common.{sym, ◌∙◌, arith}
use Rattle.sheet_page.proofs.Wrote.{whole}
use Rattle.sheet_page.proofs.put.put_refusal.Goals as goal

pub returns : goal.returns
returns c =
    let same = sym c.new-page.ensures.same ∙ sym c.refusal.ensures.same in
    whole c.refusal.ensures c.new-page.ensures.start c.new-page.ensures.bytes c.end.ensures (grind arith)
