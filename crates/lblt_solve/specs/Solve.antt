-- What `solve_mut` answers and leaves behind, refused or not. a is to be a slice of the layout y, `words` the record of its order, with the number `run`;
-- the call's layout is `full n`, the packed call's `packed n`.
use Rattle.std.specs.Prelude.{cond, List, [], ◌∷◌, ◌++◌, ◌≡◌, ℕ, ◌-◌, eqb, Float}
use Rattle.answer.specs.declared.Refusal.TheVariants.{ZeroMark}
use Rattle.answer.specs.Answer.{Answer, Done, is_done}
use Rattle.answer.specs.Refusals.{Test, ◌otherwise◌, tested}
use Rattle.matrix.specs.declared.Layout.{Layout}
use Rattle.matrix.specs.Grid.{load}
use Rattle.matrix.specs.Layouts.{lower}
use Rattle.matrix.specs.Columns.{each_column}
use Rattle.pivots.specs.Words.{mark_at}
use Rattle.lblt_solve_columns.specs.Column.{solve_column}
use Rattle.lblt_read.specs.Calls.{column_tests}

-- a zero mark refuses a solve alone, after all else
abbrev pub mark_tests : ℕ → List ℕ → List Test
mark_tests n words = (eqb (mark_at n words) 0 otherwise ZeroMark (mark_at n words - 1)) ∷ []

abbrev pub solve_tests : Layout → ℕ → ℕ → List Float → List ℕ → List Float → List Test
solve_tests y columns run a words b = column_tests y columns run a words b ++ mark_tests y.order words

pub record LbltSolved (y : Layout) (columns run : ℕ) (a : List Float) (words : List ℕ) (b : List Float) (r : Answer) (b' : List Float) : Type 0 where
  pub answer : r ≡ tested (solve_tests y columns run a words b) Done
  pub sides : b' ≡ cond (is_done r) (each_column y.order columns (solve_column y.order (load (lower y) a) words) b) b
