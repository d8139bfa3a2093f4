-- `contest` meets its contract. Assumes nothing.
use Rattle.leaf.specs.Abs.{abs_of}
use mathlib.Core.Path.{ap, ◌∙◌}
use Rattle.lblt_choice.proofs.Choices.{diagonal_wins, both_small, other_wins}
use Rattle.lblt_choice.proofs.contest.Goals as goal

pub returns-then-diag-colmax : goal.returns-then-diag-colmax
returns-then-diag-colmax c = diagonal_wins _ _ _ c.row_max-rowmax.ensures c.requires.diag_value c.if-diag-colmax.true

pub returns-then-abs-rowmax : goal.returns-then-abs-rowmax
returns-then-abs-rowmax c =
    both_small _ _ _ c.row_max-rowmax.ensures c.requires.diag_value c.if-diag-colmax.false (c.abs.ensures ∙ ap abs_of c.get.ensures) c.if-abs-rowmax.true

pub returns : goal.returns
returns c =
    other_wins _ _ _ c.row_max-rowmax.ensures c.requires.diag_value c.if-diag-colmax.false (c.abs.ensures ∙ ap abs_of c.get.ensures) c.if-abs-rowmax.false
