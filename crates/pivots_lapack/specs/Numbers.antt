-- The numbers of a LAPACK pivot list, as `dsytrf` writes it for the lower triangle: one for each row, rows counted from 1.
-- At row k, a number p above 0 is a block of this row alone, with rows k and p exchanged; −p, at rows k and k+1, is a block of these two, with rows k+1 and p exchanged.
-- A whole number is `pos p`, which is p, or `negsuc p`, which is −(p + 1).
use Rattle.std.specs.Prelude.{List, ℕ, zero, suc, ◌+◌, ℤ, pos, negsuc, neg_ℤ}
use Rattle.pivots.specs.Words.{index_at}
use Rattle.pivots.specs.Blocks.{by_size}

-- ---- from a number to index and size: 0 stands for no block, and has a size that no block has

abbrev pub index_meant : ℤ → ℕ
index_meant (pos zero) = 0
index_meant (pos (suc index)) = index
index_meant (negsuc index) = index

abbrev pub size_meant : ℤ → ℕ
size_meant (pos zero) = 0
size_meant (pos (suc index)) = 1
size_meant (negsuc index) = 2

-- ---- and back

-- the number of a row of a record
abbrev pub number_at : List ℕ → ℕ → ℤ
number_at words row = by_size words row (pos (index_at words row + 1)) (neg_ℤ (pos (index_at words row + 1)))

-- ---- INFO, 0 or a row counted from 1, is the mark word; below 0 it names no row, and stands for a row after the last

abbrev pub mark_meant : ℕ → ℤ → ℕ
mark_meant n (pos mark) = mark
mark_meant n (negsuc below) = n + 1
