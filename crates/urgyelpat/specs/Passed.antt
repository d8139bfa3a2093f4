-- What goes back across C: a call below gives a value, and the caller gets the numbers of it.
use Rattle.std.specs.Prelude.{◌≡◌, pos, Float, Result, Ok, Err}
use Rattle.answer.specs.declared.Refusal.{Refusal}
use Rattle.answer.specs.Number.{refusal_number, number_of}
use Rattle.matrix.specs.Rounded.{plus_zero}
use Rattle.pivots_lapack.specs.declared.Stamp.{Stamp}
use Rattle.cholesky.specs.declared.Floored as cholesky
use Rattle.handheld.specs.declared.Factored.{Factored}
use Rattle.handheld.specs.declared.Column3.{Column3}
use Rattle.handheld.specs.Promise.{left_by}
use Rattle.urgyelpat.specs.declared.Determined.{Determined}
use Rattle.urgyelpat.specs.declared.Listed.{Listed}
use Rattle.urgyelpat.specs.declared.Floored.{Floored}
use Rattle.urgyelpat.specs.declared.Factored3.{Factored3}
use Rattle.urgyelpat.specs.declared.Solved3.{Solved3}

-- r is the numbers of a value that meets the promise of the call below
pub record Passed {A B : Type 0} (numbers : A → B) (Given : A → Type 0) (r : B) : Type 0 where
  pub below : A
  pub given : Given below
  pub result : r ≡ numbers below

-- a determinant: its answer as one number, its value as it is, +0 where refused
abbrev pub determined_of : Result Float Refusal → Determined
determined_of (Ok value) = record { answer = 0; value = value }
determined_of (Err refusal) = record { answer = refusal_number refusal; value = plus_zero }

-- INFO and the run number of a list as they are, 0 where refused, the answer as one number
abbrev pub listed_of : Result Stamp Refusal → Listed
listed_of (Ok stamp) = record { answer = 0; info = stamp.info; run = stamp.run }
listed_of (Err refusal) = record { answer = refusal_number refusal; info = pos 0; run = 0 }

-- how many columns used a floor as it is, the answer as one number
abbrev pub floored_of : cholesky.Floored → Floored
floored_of f = record { answer = number_of f.answer; used = f.used }

-- a factor of order 3: its columns in a struct of their own, its pivots as they are
abbrev pub factored3_of : Factored → Factored3
factored3_of f = record { matrix = record { column = f.matrix }; pivots = f.pivots }

-- a side of order 3 as it is, as it was given where refused; the answer as one number
abbrev pub solved3_of : Column3 → Result Column3 Refusal → Solved3
solved3_of given r = record { answer = number_of r; side = left_by given r }
