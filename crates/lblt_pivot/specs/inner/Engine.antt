-- The updates go by pairs of neighbouring columns j and j + 1.
use Rattle.std.specs.Prelude.{List, ℕ, ◌+◌, ◌≤◌, Float}
use Rattle.matrix.specs.Matrix.{Matrix, entry}
use Rattle.matrix.specs.Grid.{load, Holds}
use Rattle.matrix.specs.Layouts.{lower}
use Rattle.matrix.specs.Loop.{for}
use Rattle.matrix.specs.declared.Layout.{Layout}
use Rattle.lblt_pivot.specs.Update.{rank1_at, work1, work2, rank2_at}
use Rattle.lblt_pivot.specs.declared.rank2.Block.{Block}
use Rattle.lblt_pivot.specs.declared.rank2.Work.{Work}

-- row i of the pair, size 1
unfoldable pub rank1_pair_at : ℕ → ℕ → Float → Float → Float → ℕ → Matrix → Matrix
rank1_pair_at k j inv ajk aj1k i M = rank1_at k (j + 1) inv aj1k i (rank1_at k j inv ajk i M)

-- w1 and w2 of row j
unfoldable pub work_by : Block → Float → Float → Work
work_by b ajk ajk1 = record { w1 = work1 b ajk ajk1; w2 = work2 b ajk ajk1 }

unfoldable pub work_at : Matrix → ℕ → Block → ℕ → Work
work_at M k b j = work_by b (M j k) (M j (k + 1))

abbrev pub worked_at : ℕ → ℕ → Work → ℕ → Matrix → Matrix
worked_at k j w = rank2_at k j w.w1 w.w2

unfoldable pub store_work : ℕ → ℕ → Work → Matrix → Matrix
store_work k j w M = entry (entry M j k w.w1) j (k + 1) w.w2

-- row i of the pair, size 2
unfoldable pub rank2_pair_at : ℕ → ℕ → Work → Work → ℕ → Matrix → Matrix
rank2_pair_at k j w v i M = worked_at k (j + 1) v i (worked_at k j w i M)

-- f has gone over the rows from `row` on and before i, and a has become a'
pub record Begun (y : Layout) (row : ℕ) (f : ℕ → Matrix → Matrix) (a : List Float) (i : ℕ) (a' : List Float) : Type 0 where
  pub from : row ≤ i
  pub upto : i ≤ y.order
  pub holds : Holds (lower y) a a' (for row i f (load (lower y) a))
