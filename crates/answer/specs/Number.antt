-- The numbers that come back: the code and the place of each answer, and the one number that holds both.
use Rattle.std.specs.Prelude.{ℕ, ◌+◌, ◌*◌, Result, Ok, Err}
use Rattle.answer.specs.declared.Refusal.{Refusal}
use Rattle.answer.specs.declared.Refusal.TheVariants.{OutOfRange, OrderAboveRoom, MatrixLength, SliceLength, BadRecord, ZeroMark, CholeskyZero, ZeroDiagonal, CholeskyBelowZero, CholeskyNan, BadList, OtherRun, BadLine}

-- ---- of a refusal

abbrev pub refusal_code : Refusal → ℕ
refusal_code OutOfRange = 1
refusal_code OrderAboveRoom = 2
refusal_code MatrixLength = 3
refusal_code SliceLength = 4
refusal_code (BadRecord row) = 5
refusal_code (ZeroMark row) = 6
refusal_code (CholeskyZero column) = 7
refusal_code (ZeroDiagonal column) = 8
refusal_code (CholeskyBelowZero column) = 10
refusal_code (CholeskyNan column) = 11
refusal_code (BadList row) = 12
refusal_code OtherRun = 13
refusal_code (BadLine line) = 20

-- 0 where the refusal names no row, column or line
abbrev pub refusal_place : Refusal → ℕ
refusal_place OutOfRange = 0
refusal_place OrderAboveRoom = 0
refusal_place MatrixLength = 0
refusal_place SliceLength = 0
refusal_place (BadRecord row) = row
refusal_place (ZeroMark row) = row
refusal_place (CholeskyZero column) = column
refusal_place (ZeroDiagonal column) = column
refusal_place (CholeskyBelowZero column) = column
refusal_place (CholeskyNan column) = column
refusal_place (BadList row) = row
refusal_place OtherRun = 0
refusal_place (BadLine line) = line

abbrev pub refusal_number : Refusal → ℕ
refusal_number r = refusal_code r * 4096 + refusal_place r

-- ---- of an answer, whatever comes back where it is done

abbrev pub code_of : {A : Type 0} → Result A Refusal → ℕ
code_of (Ok x) = 0
code_of (Err r) = refusal_code r

abbrev pub place_of : {A : Type 0} → Result A Refusal → ℕ
place_of (Ok x) = 0
place_of (Err r) = refusal_place r

abbrev pub number_of : {A : Type 0} → Result A Refusal → ℕ
number_of a = code_of a * 4096 + place_of a
