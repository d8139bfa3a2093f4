-- `Largest::or_row` meets its contract. Assumes nothing.
use Rattle.leaf.specs.Abs.{abs_of}
use mathlib.Core.Path.{ap, ◌∙◌}
use Rattle.lblt_choice.proofs.Choices.{replaced, stays}
use Rattle.lblt_choice.proofs.Largest.or_row.Goals as goal

pub returns-then-magnitude-self : goal.returns-then-magnitude-self
returns-then-magnitude-self c = replaced _ _ _ _ (c.abs-magnitude.ensures ∙ ap abs_of c.get.ensures) c.if-magnitude-self.true

pub returns : goal.returns
returns c = stays _ _ _ _ (c.abs-magnitude.ensures ∙ ap abs_of c.get.ensures) c.if-magnitude-self.false
