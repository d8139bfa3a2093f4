-- What `factor` and `solve` promise: what the lent calls promise, at order 3, of the same numbers and of the record of the pivots.
use Rattle.std.specs.Prelude.{◌≡◌, List, ℕ, length, Result, Ok, Err}
use Rattle.answer.specs.declared.Refusal.{Refusal}
use Rattle.answer.specs.Answer.{Done, answer_of}
use Rattle.matrix.specs.Layouts.{full}
use Rattle.pivots.specs.Words.{words_of}
use Rattle.lblt.specs.Factor as lblt
use Rattle.lblt_solve.specs.Solve.{LbltSolved}
use Rattle.handheld.specs.declared.Column3.{Column3}
use Rattle.handheld.specs.declared.Pivots3.{Pivots3}
use Rattle.handheld.specs.declared.Factored.{Factored}
use Rattle.handheld.specs.Shapes.{numbers_of, Square, Paired, record_of}

-- Whatever record of eight words and whatever run number are lent with the nine numbers, the lent factor is done and leaves these numbers and these pivots.
pub record FactoredByValue (matrix : List Column3) (r : Factored) : Type 0 where
  pub square : Square r.matrix
  pub paired : Paired r.pivots
  pub lent : (run : ℕ) (words : List ℕ) → length words ≡ words_of 3
      → lblt.Factored (full 3) run (numbers_of matrix) words Done (numbers_of r.matrix) (record_of run r.pivots)

-- the side that a solve leaves: the solution, or the side as it was where refused
abbrev pub left_by : Column3 → Result Column3 Refusal → Column3
left_by side (Ok solution) = solution
left_by side (Err refusal) = side

-- Whatever run number the record of the pivots carries, the lent solve of one column, asked with that number, gives this answer and leaves this side.
pub record SolvedByValue (matrix : List Column3) (pivots : Pivots3) (side : Column3) (r : Result Column3 Refusal) : Type 0 where
  pub lent : (run : ℕ) → LbltSolved (full 3) 1 run (numbers_of matrix) (record_of run pivots) side.row (answer_of r) (left_by side r).row
