-- `transposed_row` takes a row's step of the way back.
use Rattle.std.proofs.Common.{arith}
use Rattle.cholesky_solve.proofs.Back.{found, row_stored}
use Rattle.cholesky_solve.proofs.transposed_row.Goals as goal

pub returns-clause-columns : goal.returns-clause-columns
returns-clause-columns g c =
    found _ _ _ _ c.requires.sides.long _ c.requires.i_bound c.of.ensures c.requires.last_value c.get.ensures c.less-first.ensures c.less_rows.ensures
    c.get-2.ensures c.over-x.ensures c.put.auto.b c.put.ensures

pub returns-clause-row : goal.returns-clause-row
returns-clause-row g c = row_stored _ _ _ _ c.requires.sides.long (omega (arith, c.requires.i_bound)) _ _ c.put.ensures
