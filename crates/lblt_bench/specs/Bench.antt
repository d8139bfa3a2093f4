-- What `solve_bench` answers and leaves behind, refused or not. It is lent what `solve_mut` is, and a list with a bench number for each column of b.
use Rattle.std.specs.Prelude.{Bool, cond, List, [], ◌∷◌, ◌++◌, ◌≡◌, ℕ, eqb, Float, length, get_or}
use Rattle.answer.specs.declared.Refusal.TheVariants.{SliceLength}
use Rattle.answer.specs.Answer.{Answer, Done, is_done}
use Rattle.answer.specs.Refusals.{Test, ◌otherwise◌, tested}
use Rattle.matrix.specs.declared.Layout.{Layout}
use Rattle.matrix.specs.Grid.{load}
use Rattle.matrix.specs.Layouts.{lower}
use Rattle.matrix.specs.Columns.{each_chosen}
use Rattle.lblt_solve_columns.specs.Column.{solve_column}
use Rattle.lblt_read.specs.Calls.{side_tests, word_tests}
use Rattle.lblt_solve.specs.Solve.{mark_tests}

-- whether column j is the bench's
abbrev pub owns : List ℕ → ℕ → ℕ → Bool
owns benches bench j = eqb (get_or benches j 0) bench

-- a number for each column
abbrev pub list_tests : ℕ → List ℕ → List Test
list_tests columns benches = (eqb (length benches) columns otherwise SliceLength) ∷ []

-- the slices, the list among them, then the record, then the mark
abbrev pub bench_tests : Layout → ℕ → ℕ → List Float → List ℕ → List Float → List ℕ → List Test
bench_tests y columns run a words b benches =
    side_tests y columns a b ++ (list_tests columns benches ++ (word_tests y.order run words ++ mark_tests y.order words))

pub record BenchSolved (y : Layout) (columns bench run : ℕ) (a : List Float) (words : List ℕ) (b : List Float) (benches : List ℕ) (r : Answer) (b' : List Float) : Type 0 where
  pub answer : r ≡ tested (bench_tests y columns run a words b benches) Done
  pub sides : b' ≡ cond (is_done r) (each_chosen y.order columns (owns benches bench) (solve_column y.order (load (lower y) a) words) b) b
