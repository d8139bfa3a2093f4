use Rattle.std.proofs.Common.{ℕ, ◌++◌, ap₂, ◌∙◌}
use Rattle.sheet_text.specs.Text.{bytes, field, tab, lf}
use Rattle.sheet_page.specs.Page.{refusal_of}
use Rattle.sheet_page.proofs.Wrote.{wrote_same}
use Rattle.sheet_page.proofs.page.Page.refusal.Goals as goal

pub returns : goal.returns
unfolding refusal_of
returns c =
    wrote_same (ap₂ (λ (code place : ℕ). bytes "refused\t" ++ (field code tab ++ field place lf)) (c.from-code.ensures ∙ c.code.ensures) c.place.ensures) c.pair_line.ensures
