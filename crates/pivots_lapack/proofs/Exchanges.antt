-- A list names the exchanges of its record.
--     exchanges_named     in LAPACK's words each number says what document 01 says of the row's pair
--     named_twice         a block of two rows has one number at both
-- Assumes nothing.
use mathlib.Core.List.{List}
use mathlib.Core.Logic.{◌⊎◌, inl, inr}
use mathlib.Core.Path.{◌≡◌, sym, ap, ◌∙◌}
use Prim.Native.Nat.{ℕ, zero, suc, ◌+◌, ◌<◌}
use native.Mathlib.Omega.{arith}
use lib.IntN.{ℤ, pos, negsuc, neg_ℤ}
use Rattle.pivots.specs.Words.{size_at}
use Rattle.pivots.proofs.Blocks.{Two}
use Rattle.pivots.proofs.Rows.{row_sound}
use Rattle.pivots.proofs.Walks.{size_two}
use Rattle.pivots_lapack.specs.Numbers.{number_at}
use Rattle.pivots_lapack.specs.Meaning.{WrittenAs, Exchange, lapack_says, record_says}
use Rattle.pivots_lapack.proofs.Records.{in_list}
use Rattle.pivots_lapack.proofs.Lists.{list_at}
use Rattle.pivots_lapack.proofs.Rounds.{PairOf, number_pair}

abbrev exchange : ℕ → ℕ → ℕ → Exchange
exchange rows row other = record { rows = rows; row = row; other = other }

alike : {rows rows' row row' other other' : ℕ} → rows ≡ rows' → row ≡ row' → other ≡ other' → exchange rows row other ≡ exchange rows' row' other'
alike {rows} {rows'} {row} {row'} {other} s r o =
    ap (λ (x : ℕ). exchange x row other) s ∙ ap (λ (x : ℕ). exchange rows' x other) r ∙ ap (exchange rows' row') o

by_number : (z : ℤ) (words : List ℕ) (k : ℕ) → PairOf z words k → (size_at words k ≡ 1) ⊎ (size_at words k ≡ 2) → lapack_says z k ≡ record_says words k
by_number (pos zero) words k p (inl one) = absurd (omega (arith, p.size))
by_number (pos zero) words k p (inr two) = absurd (omega (arith, p.size))
by_number (pos (suc i)) words k p sound = alike p.size (omega (arith, p.size)) (omega (arith, p.index))
by_number (negsuc i) words k p sound = alike p.size (omega (arith, p.size)) p.index

module _ {n : ℕ} {words : List ℕ} {list : List ℤ} {info : ℤ} (w : WrittenAs n words list info) where
  number_there : (k : ℕ) → k < n → in_list list k ≡ number_at words k
  number_there k below = ap (λ (l : List ℤ). in_list l k) (sym w.numbers) ∙ list_at n words k below

  pub exchanges_named : (k : ℕ) → k < n → lapack_says (in_list list k) k ≡ record_says words k
  exchanges_named k below =
      let sound = row_sound w.accepted k below in
      ap (λ (z : ℤ). lapack_says z k) (number_there k below) ∙ by_number (number_at words k) words k (number_pair sound) sound.size

  pub named_twice : (k : ℕ) → Two n words k → in_list list (k + 1) ≡ in_list list k
  named_twice k t = number_there (k + 1) t.room ∙ same ∙ sym (number_there k (omega (arith, t.room)))
    where
      minus : ℕ → ℤ
      minus index = neg_ℤ (pos (index + 1))

      same : number_at words (k + 1) ≡ number_at words k
      same =
          size_two words (k + 1) _ _ (λ (e : size_at words (k + 1) ≡ 1). omega (arith, t.size₂))
          ∙ ap minus t.index₂
          ∙ sym (size_two words k _ _ (λ (e : size_at words k ≡ 1). omega (arith, t.size)))
