-- `put_numbers`: row by row.
use Rattle.std.proofs.Common.{arith}
use Rattle.pivots.proofs.Rows.{row_sound}
use Rattle.pivots_lapack.proofs.Lists.{numbers_all}
use Rattle.pivots_lapack.proofs.write.put_numbers.Goals as goal

pub number_of-requires-clause-row_bound : goal.number_of-requires-clause-row_bound
number_of-requires-clause-row_bound c =
    let row = row_sound c.requires.accepted c.loop-row.row c.loop-row-test.true in
    omega (arith, row.index)

pub returns : goal.returns
returns c = numbers_all c.loop-row.invariant c.loop-row-test.false
