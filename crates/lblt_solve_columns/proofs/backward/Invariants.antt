-- `backward` goes through the blocks from the last row back.
use Rattle.pivots.proofs.Walks.{Back}
use Rattle.lblt_solve_columns.specs.Column.{backward_block}
use Rattle.matrix.specs.Columns.{each_column}
use Rattle.matrix.specs.Layouts.{lower}
use Rattle.matrix.specs.Grid.{load}
use Rattle.std.specs.Prelude.{length, ◌≡◌}
use Rattle.lblt_solve_columns.proofs.backward.Given as goal

abbrev pub invariant-loop-k : goal.invariant-loop-k
invariant-loop-k g l = Back l.y.order l.words (λ k'. each_column l.y.order (g.S.Steps.columns l.steps) (backward_block l.y.order (load (lower l.y) l.a) l.words k')) l.initial.b l.k l.b × (length l.b ≡ length l.initial.b)

abbrev pub decreases-loop-k : goal.decreases-loop-k
decreases-loop-k g l = l.k
