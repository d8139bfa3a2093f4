-- `next_row` takes the product of row k from the row after it.
use Rattle.std.proofs.Common.{refl, ◌∙◌}
use Rattle.substitution.specs.Steps.{less_one}
use Rattle.substitution.proofs.Rows.{put_first}
use Rattle.cholesky_solve.specs.inner.Engine.{next_row}
use Rattle.cholesky_solve.proofs.next_row.Goals as goal

pub returns : goal.returns
unfolding next_row less_one
returns g c =
    put_first c.requires.sides.long _
    (record { number = λ j below. c.less.ensures j below ∙ rw (c.of.ensures j below, c.of-x.ensures j below, c.get-c.ensures) refl })
    c.put.auto.b
    c.put.ensures
