-- `divide_one` divides row k, one column after the other.
use Rattle.std.specs.Prelude.{Float}
use Rattle.std.proofs.Common.{length-set, ap, ◌∙◌}
use Rattle.matrix.specs.Columns.{each_column}
use Rattle.matrix.proofs.Turning.{turning_more, turning_all}
use Rattle.substitution.specs.Steps.{divide_one}
use Rattle.lblt_solve_rows.proofs.Stores.{divide_by, divide_at}
use Rattle.lblt_solve_rows.proofs.RowsSteps.divide_one.Goals as goal

pub loop-j-preserved : goal.loop-j-preserved
loop-j-preserved c =
    turning_more c.loop-j.invariant c.loop-j-test.true (divide_at _ _ _ _ _ c.requires.k_lt_order) (simp length-set)

pub returns : goal.returns
unfolding divide_one each_column
returns c =
    turning_all c.loop-j.invariant c.loop-j-test.false
    ∙ ap (λ (d : Float). each_column c.args.y.order c.args.self.columns (divide_by c.args.k d) c.args.b.now) c.get-d.ensures
