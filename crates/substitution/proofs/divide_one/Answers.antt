-- `divide_one` divides a row by its diagonal.
use Rattle.std.proofs.Common.{refl, ◌∙◌}
use Rattle.substitution.specs.Steps.{divide_one}
use Rattle.substitution.proofs.Rows.{put_first}
use Rattle.substitution.proofs.divide_one.Goals as goal

pub returns : goal.returns
unfolding divide_one
returns g c =
    put_first c.requires.sides.long _
    (record { number = λ j below. c.over.ensures j below ∙ rw (c.of.ensures j below, c.get.ensures) refl })
    c.put.auto.b
    c.put.ensures
