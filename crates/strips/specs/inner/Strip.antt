-- A strip of a slice: the rows lo to hi of a column that starts at s.
use Rattle.std.specs.Prelude.{◌≡◌, List, ◌⊎◌, ℕ, ◌+◌, ◌≤◌, ◌<◌, length, get_or, fold, Float}
use Rattle.std.specs.Float.{nan}
use Rattle.matrix.specs.Loop.{for}
use Rattle.matrix.specs.Rounded.{◌⊕◌, ◌⊗◌, ◌⊘◌, plus_zero}
use Rattle.strips.specs.declared.Source.{Source}

-- row i of the column that starts at s
abbrev pub row_at : List Float → ℕ → ℕ → Float
row_at l s i = get_or l (i + s) nan

-- l has v in the strip, and all else as in l₀
pub record Strip (s lo hi : ℕ) (v : ℕ → Float) (l₀ l : List Float) : Type 0 where
  pub long : length l ≡ length l₀
  pub inside : (i : ℕ) → lo ≤ i → i < hi → row_at l s i ≡ v i
  pub outside : (p : ℕ) → ((i : ℕ) → lo ≤ i → i < hi → p ≡ i + s → ⊥) → get_or l p nan ≡ get_or l₀ p nan

-- rows lo to hi of another column stand in the slice, all before or all after those of the column at `to`
pub record Elsewhere (lo hi to : ℕ) (l : List Float) (s : Source) : Type 0 where
  pub within : hi + s.start ≤ length l
  pub beside : (hi + s.start ≤ lo + to) ⊎ (hi + to ≤ lo + s.start)

-- x, plus row i of a column times its multiplier
unfoldable pub plus : List Float → Source → ℕ → Float → Float
plus l s i x = x ⊕ s.scale ⊗ row_at l s.start i

-- row i of the column at `to`, plus the multiples of other columns, one after the other
unfoldable pub axpy_of : List Float → ℕ → List Source → ℕ → Float
unfolding plus
axpy_of l to ss i = fold (λ x s. plus l s i x) (row_at l to i) ss

-- of the columns `term c`, those from `first` up to k are added, one after the other
pub record Gathered (to lo hi : ℕ) (term : ℕ → Source) (first : ℕ) (l₀ : List Float) (k : ℕ) (l : List Float) : Type 0 where
  pub from : first ≤ k
  pub sums : Strip to lo hi (λ i. for first k (λ c. plus l₀ (term c) i) (row_at l₀ to i)) l₀ l

unfoldable pub ratio_of : List Float → ℕ → Float → ℕ → Float
ratio_of l s d i = row_at l s i ⊘ d

abbrev pub zero_at : ℕ → Float
zero_at i = plus_zero
