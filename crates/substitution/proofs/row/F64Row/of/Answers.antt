-- Row i of a single column is its number i.
use Rattle.std.proofs.Common.{sym, ap}
use Rattle.matrix.specs.Columns.{at}
use Rattle.substitution.proofs.Instances.{whole}
use Rattle.substitution.proofs.row.F64Row.of.Goals as goal

pub returns : goal.returns
returns c j below = sym (ap (λ l. at l c.args.i) (whole _ _ c.requires.b_len j below))
