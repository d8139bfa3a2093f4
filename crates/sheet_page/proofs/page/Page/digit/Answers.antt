use Rattle.std.proofs.Common.{ℕ, [], ◌∷◌, sym, ap, ◌∙◌}
use Rattle.sheet_page.proofs.Wrote.{wrote_same, digit_low, digit_high}
use Rattle.sheet_page.proofs.page.Page.digit.Goals as goal
use Rattle.sheet_page.proofs.page.Page.digit.Goals.{then-d-lt10, else-d-lt10}

pub returns : goal.returns
returns c =
    wrote_same
    (ap (λ (b : ℕ). b ∷ []) (elim c.if-d-lt10.branch [
      | then-d-lt10 w ↦ w.byte-is ∙ sym (digit_low c.args.d w.if-d-lt10.true)
      | else-d-lt10 w ↦ w.byte-is ∙ sym (digit_high c.args.d w.if-d-lt10.false)
    ]))
    c.byte.ensures
