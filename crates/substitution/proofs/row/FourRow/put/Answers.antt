-- Four numbers stored, each in its column.
use Rattle.substitution.specs.inner.Numbers.{of_four}
use Rattle.substitution.proofs.Instances.{put_four}
use Rattle.substitution.proofs.row.FourRow.put.Goals as goal

pub returns : goal.returns
returns c = put_four _ _ c.requires.i_lt_n (of_four c.args.self) _
