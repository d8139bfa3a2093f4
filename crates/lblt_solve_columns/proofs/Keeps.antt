-- A column keeps its length through every step of `solve_column`.
use Rattle.std.specs.Prelude.{Bool, true, false, cond, List, ◌≡◌, ℕ, ◌+◌, ◌-◌, eqb, Float, length}
use Rattle.std.proofs.Common.{◌∙◌, length-set}
use Rattle.matrix.specs.Matrix.{Matrix}
use Rattle.matrix.proofs.ColumnsLoops.{Keeping, Keeps, Loop, loop_keeps}
use Rattle.pivots.specs.Words.{index_at, size_at}
use Rattle.pivots.specs.Blocks.{by_size, forwards, backwards}
use Rattle.pivots.proofs.WholeWalks.{forwards_uniform, backwards_uniform}
use Rattle.substitution.proofs.Keeps.{eliminate_one_keeps, eliminate_two_keeps, divide_one_keeps, gather_keeps}
use Rattle.lblt_solve_columns.specs.Column.{swap_rows, forward_block, divide_two, divide_block, backward_block, solve_column}
use Rattle.lblt_solve_columns.specs.inner.Engine.{reduce_block}

-- the walks over the blocks, as loops
abbrev pub Forwards : ℕ → List ℕ → Loop
Forwards n words S = forwards {S = S} n words

abbrev pub Backwards : ℕ → List ℕ → Loop
Backwards n words S = backwards {S = S} n words

by_size_law : (words : List ℕ) (row : ℕ) (x y l : List Float) → length x ≡ length l → length y ≡ length l → length (by_size words row x y) ≡ length l
unfolding by_size
by_size_law words row x y l h g = either (eqb (size_at words row) 1)
  where
    either : (t : Bool) → length (cond t x y) ≡ length l
    either true = h
    either false = g

pub swap_keeps : (b : List Float) (p q : ℕ) → length (swap_rows b p q) ≡ length b
unfolding swap_rows
swap_keeps b p q = simp length-set

pub divide_two_keeps : (A : Matrix) → Keeps (divide_two A)
unfolding divide_two
divide_two_keeps A k b = simp length-set

module _ (n : ℕ) (A : Matrix) (words : List ℕ) where
  forward_keeps : Keeps (forward_block n A words)
  unfolding forward_block
  forward_keeps k b =
      by_size_law words k _ _ b
      (eliminate_one_keeps n A k _ ∙ swap_keeps b k (index_at words k))
      (eliminate_two_keeps n A k _ ∙ swap_keeps b (k + 1) (index_at words k))

  divide_keeps : Keeps (divide_block A words)
  unfolding divide_block
  divide_keeps k b = by_size_law words k _ _ b (divide_one_keeps A k b) (divide_two_keeps A k b)

  pub reduce_keeps : Keeps (reduce_block n A words)
  unfolding reduce_block
  reduce_keeps k b = divide_keeps k (forward_block n A words k b) ∙ forward_keeps k b

  pub backward_keeps : Keeps (backward_block n A words)
  unfolding backward_block
  backward_keeps k b =
      by_size_law words (k - 1) _ _ b
      (swap_keeps _ (k - 1) (index_at words (k - 1)) ∙ gather_keeps n A (k - 1) k b)
      (swap_keeps _ (k - 1) (index_at words (k - 1)) ∙ gather_keeps n A (k - 2) k _ ∙ gather_keeps n A (k - 1) k b)

  pub reduced_keeps : Keeping (forwards n words (reduce_block n A words))
  reduced_keeps l = loop_keeps (Forwards n words) (forwards_uniform n words) (reduce_block n A words) l reduce_keeps

  pub backed_keeps : Keeping (backwards n words (backward_block n A words))
  backed_keeps l = loop_keeps (Backwards n words) (backwards_uniform n words) (backward_block n A words) l backward_keeps

  pub solve_keeps : Keeping (solve_column n A words)
  unfolding solve_column
  solve_keeps b =
      backed_keeps _
      ∙ loop_keeps (Forwards n words) (forwards_uniform n words) (divide_block A words) _ divide_keeps
      ∙ loop_keeps (Forwards n words) (forwards_uniform n words) (forward_block n A words) b forward_keeps
