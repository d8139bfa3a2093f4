use Rattle.std.proofs.Common.{ap, ◌∙◌}
use Rattle.answer.specs.Answer.{is_done}
use Rattle.sheet_page.proofs.PutLaws.{put_same}
use Rattle.sheet.proofs.Factor.{answer_done, determined, page_is}
use Rattle.sheet.proofs.factor_and_write.Goals as goal

pub unwrap-requires : goal.unwrap-requires
unwrap-requires c = ap is_done (c.factor.ensures.answer ∙ answer_done _ _ _ c.requires)

pub unwrap-determinant-requires : goal.unwrap-determinant-requires
unwrap-determinant-requires c =
    let stored = c.factor.ensures.left.done (ap is_done (c.factor.ensures.answer ∙ answer_done _ _ _ c.requires)) in
    ap is_done (determined _ _ _ c.requires _ _ stored c.factor.auto.a c.factor.auto.words _ c.determinant.ensures)

pub returns : goal.returns
returns c =
    let stored = c.factor.ensures.left.done (ap is_done (c.factor.ensures.answer ∙ answer_done _ _ _ c.requires)) in
    let page = page_is _ _ _ c.requires _ _ stored c.factor.auto.a c.factor.auto.words _ (rw c.unwrap-determinant.ensures at c.determinant.ensures) in
    put_same page c.put_page.ensures
