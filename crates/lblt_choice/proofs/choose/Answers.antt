-- `choose` meets its contract. Assumes nothing.
use Rattle.leaf.specs.Abs.{abs_of}
use mathlib.Core.Path.{ap, ◌∙◌}
use native.Mathlib.Omega.{arith}
use Rattle.lblt_choice.proofs.Choices.{chooses_zero_column, chooses_contest, chooses_diagonal}
use Rattle.lblt_choice.proofs.Range.{contest_range}
use Rattle.lblt_choice.proofs.choose.Goals as goal

pub returns-then-maximum : goal.returns-then-maximum
returns-then-maximum c =
    chooses_zero_column _ _ _ (c.abs-diag.ensures ∙ ap abs_of c.get.ensures) c.column_max-top.ensures c.maximum.ensures c.if-maximum.true

pub contest-requires-clause-k_le_imax : goal.contest-requires-clause-k_le_imax
contest-requires-clause-k_le_imax c =
    let below = contest_range _ _ _ (c.abs-diag.ensures ∙ ap abs_of c.get.ensures) c.column_max-top.ensures c.if-diag-top.true in
    omega arith

pub contest-requires-clause-imax_lt_order : goal.contest-requires-clause-imax_lt_order
contest-requires-clause-imax_lt_order c =
    let below = contest_range _ _ _ (c.abs-diag.ensures ∙ ap abs_of c.get.ensures) c.column_max-top.ensures c.if-diag-top.true in
    below.1

pub returns-then-diag-top : goal.returns-then-diag-top
returns-then-diag-top c =
    chooses_contest _ _ _ (c.abs-diag.ensures ∙ ap abs_of c.get.ensures) c.column_max-top.ensures c.maximum.ensures c.if-maximum.false c.if-diag-top.true c.contest.ensures

pub returns : goal.returns
returns c =
    chooses_diagonal _ _ _ (c.abs-diag.ensures ∙ ap abs_of c.get.ensures) c.column_max-top.ensures c.maximum.ensures c.if-maximum.false c.if-diag-top.false
