-- `or_entry` meets its contract. Assumes nothing.
use Rattle.lblt_choice.specs.Choice.{along_row}
use Rattle.lblt_choice.proofs.or_entry.Goals as goal

pub returns-clause-value : goal.returns-clause-value
unfolding along_row
returns-clause-value c = rw (c.abs.ensures, c.get.ensures) at c.larger.ensures.value
