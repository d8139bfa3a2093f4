-- Item t of one tray beside item s of another tray of the same order, or of the same one: what both are given, and what both are left with.
use Rattle.std.specs.Prelude.{List, ◌≡◌, ℕ, Float}
use Rattle.lblt_tray.specs.Tray.{matrix_at, record_at, side_at, number_at}

-- one matrix, one side, one run number; the other items, and what their records hold, do not count
pub record GivenAlike (n t : ℕ) (a b : List Float) (runs : List ℕ) (s : ℕ) (c d : List Float) (runs' : List ℕ) : Type 0 where
  pub matrix : matrix_at n t a ≡ matrix_at n s c
  pub side : side_at n t b ≡ side_at n s d
  pub run : number_at t runs ≡ number_at s runs'

-- one factor, one record, one side, one answer
pub record LeftAlike (n t : ℕ) (a : List Float) (words : List ℕ) (b : List Float) (answers : List ℕ) (s : ℕ) (c : List Float) (words' : List ℕ) (d : List Float) (answers' : List ℕ) : Type 0 where
  pub matrix : matrix_at n t a ≡ matrix_at n s c
  pub pivots : record_at n t words ≡ record_at n s words'
  pub side : side_at n t b ≡ side_at n s d
  pub answer : number_at t answers ≡ number_at s answers'
