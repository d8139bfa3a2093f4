-- `reduce` goes through the blocks from the first row on.
use Rattle.pivots.proofs.Walks.{Along}
use Rattle.lblt_solve_columns.specs.inner.Engine.{reduce_block}
use Rattle.matrix.specs.Columns.{each_column}
use Rattle.matrix.specs.Layouts.{lower}
use Rattle.matrix.specs.Grid.{load}
use Rattle.std.specs.Prelude.{length, ◌≡◌, ◌-◌}
use Rattle.lblt_solve_columns.proofs.reduce.Given as goal

abbrev pub invariant-loop-k : goal.invariant-loop-k
invariant-loop-k g l = Along l.n l.words (λ k'. each_column l.y.order (g.S.Steps.columns l.steps) (reduce_block l.y.order (load (lower l.y) l.a) l.words k')) l.initial.b l.k l.b × (length l.b ≡ length l.initial.b)

abbrev pub decreases-loop-k : goal.decreases-loop-k
decreases-loop-k g l = l.n - l.k
