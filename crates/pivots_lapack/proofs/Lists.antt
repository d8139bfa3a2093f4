-- The list of a record, number by number, and as it is written row by row.
--     list_length, list_at                                    its numbers
--     NumbersWritten, numbers_all    the rows before k are written; the whole list
-- Assumes nothing.
use mathlib.Core.List.{List}
use mathlib.Core.Path.{◌≡◌, refl, sym, ap, ◌∙◌}
use Prim.Native.Nat.{ℕ, zero, suc, ◌+◌, ◌<◌, ◌≤◌}
use native.Mathlib.Omega.{arith}
use lib.IntN.{ℤ, pos}
use lib.ListN.{length}
use lib.Seq.{ext_get_or}
use Rattle.pivots_lapack.specs.Numbers.{number_at}
use Rattle.pivots_lapack.specs.Lists.{numbers_from, list_of}
use Rattle.pivots_lapack.proofs.Records.{in_list}

from_length : (words : List ℕ) (count row : ℕ) → length (numbers_from words count row) ≡ count
from_length words zero row = refl
from_length words (suc count) row = ap suc (from_length words count (row + 1))

from_at : (words : List ℕ) (count row k : ℕ) → k < count → in_list (numbers_from words count row) k ≡ number_at words (row + k)
from_at words zero row k below = absurd (omega arith)
from_at words (suc count) row zero below = ap (number_at words) (omega arith)
from_at words (suc count) row (suc k) below = from_at words count (row + 1) k (omega arith) ∙ ap (number_at words) (omega arith)

pub list_length : (n : ℕ) (words : List ℕ) → length (list_of n words) ≡ n
unfolding list_of
list_length n words = from_length words n 0

pub list_at : (n : ℕ) (words : List ℕ) (row : ℕ) → row < n → in_list (list_of n words) row ≡ number_at words row
unfolding list_of
list_at n words row below = from_at words n 0 row below ∙ ap (number_at words) (omega arith)

-- a list of n numbers by its numbers
pub list_is : {n : ℕ} (words : List ℕ) {list : List ℤ} → length list ≡ n → ((row : ℕ) → row < n → in_list list row ≡ number_at words row) → list ≡ list_of n words
list_is {n} words {list} long each =
    ext_get_or (pos 0) list (list_of n words) (long ∙ sym (list_length n words)) (λ row h. each row (omega arith) ∙ sym (list_at n words row (omega arith)))

-- ---- row by row

pub record NumbersWritten (n : ℕ) (words : List ℕ) (row : ℕ) (list : List ℤ) : Type 0 where
  pub within : row ≤ n
  pub long : length list ≡ n
  pub numbers : (r : ℕ) → r < row → in_list list r ≡ number_at words r

module _ {n : ℕ} {words : List ℕ} {row : ℕ} {list : List ℤ} where
  pub numbers_all : NumbersWritten n words row list → n ≤ row → list ≡ list_of n words
  numbers_all p whole = list_is words p.long (λ r h. p.numbers r (omega (arith, whole)))
