-- The rows of one column, and of four.
--     whole, one_each         a slice of one column: that column, and f of it
--     read_at                 a number of a slice, in its column
--     by_four                 a claim on four columns
--     put_four                four numbers stored
use Rattle.std.specs.Prelude.{List, ◌≡◌, ℕ, zero, suc, ◌+◌, ◌-◌, ◌*◌, ◌<◌, ◌≤◌, Float, length, take, drop, set}
use Rattle.std.proofs.Common.{arith, ap, ◌∙◌, drop-set-lt, take_all}
use Rattle.std.proofs.Math.Seq.{drop-set-add, take-set-lt, take-set-le}
use Rattle.matrix.specs.Columns.{at, column, each_column}
use Rattle.matrix.proofs.Columns.{whole_column}
use Rattle.matrix.proofs.Loops.{for_one}
use Rattle.matrix.proofs.ColumnsLent.{number_at}
use Rattle.matrix.specs.Columns.{at_column}

-- ---- one column

pub whole : (n : ℕ) (b : List Float) → length b ≡ n * 1 → (j : ℕ) → j < 1 → column n j b ≡ b
unfolding column
whole n b long (suc j) h = absurd (omega arith)
whole n b long zero h = let start : 0 * n ≡ 0 = omega arith in rw start (take_all n b (omega (arith, long)))

pub one_each : (n : ℕ) (f : List Float → List Float) (b : List Float) → length b ≡ n → each_column n 1 f b ≡ f b
unfolding each_column
one_each n f b long = for_one 0 (at_column n f) b ∙ whole_column n f b long

-- ---- one number, in the slice and in its column

module _ (n : ℕ) (b : List Float) where
  module _ (j p i : ℕ) (place : p ≡ j * n + i) (inside : i < n) where
    pub read_at : at b p ≡ at (column n j b) i
    read_at = rw place (number_at n j b i inside)

    write_at : (v : Float) → column n j (set b p v) ≡ set (column n j b) i v
    unfolding column
    write_at v = rw (place, drop-set-add (j * n) b i v) (take-set-lt n (drop (j * n) b) i v inside)

  module _ (j p : ℕ) (v : Float) where
    write_before : p < j * n → column n j (set b p v) ≡ column n j b
    unfolding column
    write_before h = ap (take n) (drop-set-lt (j * n) b p v h)

    write_after : j * n + n ≤ p → column n j (set b p v) ≡ column n j b
    unfolding column
    write_after h =
        let place : p ≡ j * n + (p - j * n) = omega arith in
        ap (λ (q : ℕ). take n (drop (j * n) (set b q v))) place
        ∙ ap (take n) (drop-set-add (j * n) b (p - j * n) v)
        ∙ take-set-le n (drop (j * n) b) (p - j * n) v (omega arith)

-- ---- four columns

pub by_four : (P : ℕ → Type 0) → P 0 → P 1 → P 2 → P 3 → (j : ℕ) → j < 4 → P j
by_four P p₀ p₁ p₂ p₃ zero h = p₀
by_four P p₀ p₁ p₂ p₃ (suc zero) h = p₁
by_four P p₀ p₁ p₂ p₃ (suc (suc zero)) h = p₂
by_four P p₀ p₁ p₂ p₃ (suc (suc (suc zero))) h = p₃
by_four P p₀ p₁ p₂ p₃ (suc (suc (suc (suc j)))) h = absurd (omega arith)

module _ (n i : ℕ) (inside : i < n) (x : ℕ → Float) (b : List Float) where
  abbrev one : List Float
  one = set b i (x 0)

  abbrev two : List Float
  two = set one (i + n) (x 1)

  abbrev three : List Float
  three = set two (i + 2 * n) (x 2)

  abbrev four : List Float
  four = set three (i + 3 * n) (x 3)

  pub put_four : (j : ℕ) → j < 4 → column n j four ≡ set (column n j b) i (x j)
  put_four =
      by_four (λ j. column n j four ≡ set (column n j b) i (x j))
      (write_after n three 0 (i + 3 * n) _ (omega arith)
      ∙ write_after n two 0 (i + 2 * n) _ (omega arith)
      ∙ write_after n one 0 (i + n) _ (omega arith)
      ∙ write_at n b 0 i i (omega arith) inside _)
      (write_after n three 1 (i + 3 * n) _ (omega arith)
      ∙ write_after n two 1 (i + 2 * n) _ (omega arith)
      ∙ write_at n one 1 (i + n) i (omega arith) inside _
      ∙ ap (λ (l : List Float). set l i (x 1)) (write_before n b 1 i _ (omega arith)))
      (write_after n three 2 (i + 3 * n) _ (omega arith)
      ∙ write_at n two 2 (i + 2 * n) i (omega arith) inside _
      ∙ ap (λ (l : List Float). set l i (x 2)) (write_before n one 2 (i + n) _ (omega arith) ∙ write_before n b 2 i _ (omega arith)))
      (write_at n three 3 (i + 3 * n) i (omega arith) inside _
      ∙ ap (λ (l : List Float). set l i (x 3))
      (write_before n two 3 (i + 2 * n) _ (omega arith) ∙ write_before n one 3 (i + n) _ (omega arith) ∙ write_before n b 3 i _ (omega arith)))
