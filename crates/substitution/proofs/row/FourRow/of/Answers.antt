-- Row i of four columns, each number in its column.
use Rattle.std.proofs.Common.{arith}
use Rattle.substitution.proofs.Instances.{read_at, by_four}
use Rattle.substitution.proofs.row.FourRow.of.Goals as goal

pub returns : goal.returns
returns c =
    by_four _
    (read_at _ _ 0 _ _ (omega arith) c.requires.i_lt_n)
    (read_at _ _ 1 _ _ (omega arith) c.requires.i_lt_n)
    (read_at _ _ 2 _ _ (omega arith) c.requires.i_lt_n)
    (read_at _ _ 3 _ _ (omega arith) c.requires.i_lt_n)
