use Rattle.std.proofs.Common.{sym, ◌∙◌, arith}
use Rattle.sheet_page.specs.Page.{twin_line}
use Rattle.sheet_page.proofs.Wrote.{whole}
use Rattle.sheet_page.proofs.put.put_twin.Goals as goal

pub returns : goal.returns
unfolding twin_line
returns c =
    let same = sym c.new-page.ensures.same ∙ sym c.pair_line.ensures.same in
    whole c.pair_line.ensures c.new-page.ensures.start c.new-page.ensures.bytes c.end.ensures (grind arith)
