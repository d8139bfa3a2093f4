-- `divide_two` solves a block of size 2.
use Rattle.lblt_solve_columns.proofs.Rows.{divided_two}
use Rattle.lblt_solve_columns.proofs.steps.BesideSteps.divide_two.Goals as goal

pub returns : goal.returns
returns g c =
    divided_two _ _ c.requires.sides.long _ _ _ c.get-d11.ensures c.get-d22.ensures c.get-d21.ensures c.of-x.ensures c.of-z.ensures
    c.cross.ensures c.over.ensures c.put.auto.b c.put.ensures c.cross-2.ensures c.over-2.ensures c.put-2.auto.b c.put-2.ensures
