-- Two records with the same pairs are gone through alike from the first row on, whatever stands after the pairs.
use mathlib.Core.Bool.{cond}
use mathlib.Core.List.{List}
use mathlib.Core.Path.{◌≡◌, refl, ap, ◌∙◌}
use Prim.Native.Nat.{ℕ, zero, suc, ◌+◌, ◌<◌}
use lib.Dec.{eqb, ltb}
use borrow.Author.Tests.{ltb-true}
use Rattle.answer.proofs.Tests.{where_tested}
use Rattle.pivots.specs.Words.{index_at, size_at}
use Rattle.pivots.specs.Blocks.{by_size, rows_of, blocks_from, forwards}

-- of the rows before n
pub record SamePairs (n : ℕ) (words words' : List ℕ) : Type 0 where
  pub index : (row : ℕ) → row < n → index_at words row ≡ index_at words' row
  pub size : (row : ℕ) → row < n → size_at words row ≡ size_at words' row

module _ {n : ℕ} {words words' : List ℕ} (same : SamePairs n words words') where
  pub size_alike : {S : Type 0} (row : ℕ) → row < n → (one two : S) → by_size words row one two ≡ by_size words' row one two
  unfolding by_size
  size_alike {S} row below one two = ap (λ (size : ℕ). cond (eqb size 1) one two) (same.size row below)

  module _ {S : Type 0} (f g : ℕ → S → S) (steps : (k : ℕ) → k < n → (s : S) → f k s ≡ g k s) where
    blocks_alike : (fuel k : ℕ) (s : S) → blocks_from fuel n words f k s ≡ blocks_from fuel n words' g k s
    unfolding blocks_from rows_of
    blocks_alike zero k s = refl
    blocks_alike (suc fuel) k s =
        where_tested (ltb k n) s
        (λ test.
        let below : k < n = ltb-true k n test in
        blocks_alike fuel (k + rows_of words k) (f k s)
        ∙ ap (λ (rows : ℕ). blocks_from fuel n words' g (k + rows) (f k s)) (size_alike k below 1 2)
        ∙ ap (blocks_from fuel n words' g (k + rows_of words' k)) (steps k below s))

    pub forwards_alike : (s : S) → forwards n words f s ≡ forwards n words' g s
    unfolding forwards
    forwards_alike s = blocks_alike n 0 s
