-- `gather_row` takes the products of a column of the factor with the rows below from one row.
use Rattle.substitution.specs.Steps.{gather_row}
use Rattle.substitution.proofs.Rows.{put_first}
use Rattle.std.proofs.Common.{◌∙◌, refl}
use Rattle.substitution.proofs.gather_row.Goals as goal

pub returns : goal.returns
unfolding gather_row
returns g c = put_first c.requires.sides.long _ (record { number = λ j below. c.less_rows.ensures j below ∙ rw (c.of-x.ensures j below) refl }) c.put.auto.b c.put.ensures
