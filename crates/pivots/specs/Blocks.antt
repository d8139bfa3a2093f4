-- Going through the blocks of a pivot record.
use Rattle.std.specs.Prelude.{cond, List, ℕ, zero, suc, ◌+◌, ◌-◌, eqb, ltb}
use Rattle.pivots.specs.Words.{size_at}

-- by the size that stands at a row: `one` for size 1, else `two`
unfoldable pub by_size : {S : Type 0} → List ℕ → ℕ → S → S → S
by_size words row one two = cond (eqb (size_at words row) 1) one two

-- how many rows the block of a row has
unfoldable pub rows_of : List ℕ → ℕ → ℕ
rows_of words row = by_size words row 1 2

-- from row k on, for at most `fuel` blocks: s := f k s at the first row k of each
unfoldable pub blocks_from : {S : Type 0} → ℕ → ℕ → List ℕ → (ℕ → S → S) → ℕ → S → S
blocks_from zero n words f k s = s
blocks_from (suc fuel) n words f k s = cond (ltb k n) (blocks_from fuel n words f (k + rows_of words k) (f k s)) s

-- all blocks, from the first row on
unfoldable pub forwards : {S : Type 0} → ℕ → List ℕ → (ℕ → S → S) → S → S
unfolding blocks_from
forwards n words f s = blocks_from n n words f 0 s

-- from row k back, for at most `fuel` blocks: s := f k s at the row k after each
unfoldable pub blocks_to : {S : Type 0} → ℕ → List ℕ → (ℕ → S → S) → ℕ → S → S
blocks_to zero words f k s = s
blocks_to (suc fuel) words f k s = cond (ltb 0 k) (blocks_to fuel words f (k - rows_of words (k - 1)) (f k s)) s

-- all blocks, from the last row back
unfoldable pub backwards : {S : Type 0} → ℕ → List ℕ → (ℕ → S → S) → S → S
unfolding blocks_to
backwards n words f s = blocks_to n words f n s
