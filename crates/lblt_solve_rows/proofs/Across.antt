-- The loops over the rows, told by what they do to each column: `eliminated_one`, `eliminated_two`, `gathered`.
use Rattle.std.specs.Prelude.{List, ◌≡◌, refl, ℕ, ◌+◌, ◌*◌, ◌<◌, ◌≤◌, Float, length, get_or}
use Rattle.std.specs.Float.{nan}
use Rattle.std.proofs.Common.{◌∙◌, arith}
use Rattle.matrix.specs.declared.Layout.{Layout}
use Rattle.matrix.specs.Grid.{load}
use Rattle.matrix.specs.Layouts.{lower, start_of}
use Rattle.matrix.specs.Loop.{for}
use Rattle.matrix.proofs.Loops.{for_same}
use Rattle.substitution.specs.Steps.{eliminate_one, eliminate_two, gather_row}
use Rattle.substitution.proofs.Keeps.{eliminate_one_keeps, eliminate_two_keeps, gather_keeps}
use Rattle.substitution.proofs.Offsets.{offset_at}
use Rattle.matrix.specs.Columns.{each_column}
use Rattle.matrix.proofs.ColumnsLoops.{Keeping, rising, for_uniform, for_long}
use Rattle.matrix.proofs.Columns.{each_same, each_loop}
use Rattle.lblt_solve_rows.specs.inner.Rows.{less_row}
use Rattle.lblt_solve_rows.proofs.ByRow.{less_keeps, eliminate_rows, eliminate_rows_two, gather_rows}

module _ (y : Layout) (a : List Float) (columns : ℕ) (b : List Float) (lined : length b ≡ y.order * columns) (k start : ℕ) (starts : start ≡ start_of y k) where
  pub eliminated_one
      : for (k + 1) y.order (λ i. each_column y.order columns (less_row i k (get_or a (i + start) nan))) b
      ≡ each_column y.order columns (eliminate_one y.order (load (lower y) a) k) b
  eliminated_one =
      for_same (k + 1) y.order _ (λ i. each_column y.order columns (less_row i k (load (lower y) a i k))) b
      (λ i x low high. rw (offset_at y a k i start starts (omega arith) high) refl)
      ∙ each_loop y.order columns (rising (k + 1) y.order) (for_uniform (k + 1) y.order) (λ i. less_row i k (load (lower y) a i k)) (λ i. less_keeps i k _) b lined
      ∙ each_same y.order columns _ (eliminate_one y.order (load (lower y) a) k)
      (λ l. for_long (k + 1) y.order _ l (λ i. less_keeps i k _))
      (eliminate_one_keeps y.order (load (lower y) a) k)
      b lined
      (λ l long. eliminate_rows y.order (load (lower y) a) l long k)

  pub eliminated_two
      : (next : ℕ) → next ≡ start_of y (k + 1)
      → for (k + 2) y.order (λ i. each_column y.order columns (λ l. less_row i (k + 1) (get_or a (i + next) nan) (less_row i k (get_or a (i + start) nan) l))) b
      ≡ each_column y.order columns (eliminate_two y.order (load (lower y) a) k) b
  eliminated_two next starts₂ =
      for_same (k + 2) y.order _
      (λ i. each_column y.order columns (λ l. less_row i (k + 1) (load (lower y) a i (k + 1)) (less_row i k (load (lower y) a i k) l)))
      b
      (λ i x low high. rw (offset_at y a k i start starts (omega arith) high, offset_at y a (k + 1) i next starts₂ (omega arith) high) refl)
      ∙ each_loop y.order columns (rising (k + 2) y.order) (for_uniform (k + 2) y.order) (λ i l. less_row i (k + 1) (load (lower y) a i (k + 1)) (less_row i k (load (lower y) a i k) l)) both b lined
      ∙ each_same y.order columns _ (eliminate_two y.order (load (lower y) a) k)
      (λ l. for_long (k + 2) y.order _ l both)
      (eliminate_two_keeps y.order (load (lower y) a) k)
      b lined
      (λ l long. eliminate_rows_two y.order (load (lower y) a) l long k)
    where
      both : (i : ℕ) → Keeping (λ l. less_row i (k + 1) (load (lower y) a i (k + 1)) (less_row i k (load (lower y) a i k) l))
      both i l = less_keeps i (k + 1) _ _ ∙ less_keeps i k _ l

  pub gathered
      : (from : ℕ) → k < from → from ≤ y.order
      → for from y.order (λ i. each_column y.order columns (less_row k i (get_or a (i + start) nan))) b
      ≡ each_column y.order columns (gather_row y.order (load (lower y) a) k from) b
  gathered from below inside =
      for_same from y.order _ (λ i. each_column y.order columns (less_row k i (load (lower y) a i k))) b
      (λ i x low high. rw (offset_at y a k i start starts (omega arith) high) refl)
      ∙ each_loop y.order columns (rising from y.order) (for_uniform from y.order) (λ i. less_row k i (load (lower y) a i k)) (λ i. less_keeps k i _) b lined
      ∙ each_same y.order columns _ (gather_row y.order (load (lower y) a) k from)
      (λ l. for_long from y.order _ l (λ i. less_keeps k i _))
      (gather_keeps y.order (load (lower y) a) k from)
      b lined
      (λ l long. gather_rows y.order (load (lower y) a) l long k from below (omega arith))
