-- What a list stands for, said without the two calls.
use Rattle.std.specs.Prelude.{List, ◌≡◌, ℕ, ◌+◌, ◌-◌, ℤ, pos, negsuc}
use Rattle.pivots.specs.Words.{index_at, size_at, mark_at}
use Rattle.pivots.specs.Rule.{Accepted}
use Rattle.pivots_lapack.specs.Lists.{list_of}

-- a sound record is written as this list and this INFO
pub record WrittenAs (n : ℕ) (words : List ℕ) (list : List ℤ) (info : ℤ) : Type 0 where
  pub accepted : Accepted n words
  pub numbers : list_of n words ≡ list
  pub mark : pos (mark_at n words) ≡ info

-- ---- the exchange of the block that starts at row k, rows counted from 0

pub record Exchange : Type 0 where
  pub rows : ℕ
  pub row : ℕ
  pub other : ℕ

-- in LAPACK's words, of the number at row k, which counts from 1: above 0, the block is row k, and it was exchanged with the row of this number; below 0, the block is rows k and k+1, and row k+1 was exchanged with the row of this number less its sign
abbrev pub lapack_says : ℤ → ℕ → Exchange
lapack_says (pos p) k = record { rows = 1; row = k; other = p - 1 }
lapack_says (negsuc p) k = record { rows = 2; row = k + 1; other = p }

-- in document 01's words, of a record: row k + size − 1 and the index were exchanged
abbrev pub record_says : List ℕ → ℕ → Exchange
record_says words k = record { rows = size_at words k; row = k + size_at words k - 1; other = index_at words k }
