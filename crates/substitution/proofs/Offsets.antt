-- Entries of the factor at plain offsets, i + start with `start` where column k starts.
use Rattle.std.specs.Prelude.{List, ◌≡◌, ℕ, ◌+◌, ◌≤◌, ◌<◌, Float, length, get_or, set}
use Rattle.std.specs.Float.{nan}
use Rattle.std.proofs.Common.{arith}
use Rattle.matrix.specs.declared.Layout.{Layout}
use Rattle.matrix.specs.Grid.{load}
use Rattle.matrix.specs.Rounded.{◌⊖◌, ◌⊗◌}
use Rattle.matrix.specs.Layouts.{Laid, lower, start_of}
use Rattle.matrix.specs.Loop.{for}
use Rattle.matrix.proofs.Loops.{for_same}
use Rattle.matrix.proofs.Places.{lower_at, lower_within, start_small}
use Rattle.matrix.specs.Columns.{at}
use Rattle.substitution.specs.Steps.{less_one, less_two, less_product, gather_row}

module _ (y : Layout) (a : List Float) (k i start : ℕ) (starts : start ≡ start_of y k) (below : k ≤ i) (inside : i < y.order) where
  pub offset_within : Laid y a → i + start < length a
  offset_within f = rw starts (lower_within y a i k f below inside)

  pub offset_at : get_or a (i + start) nan ≡ load (lower y) a i k
  offset_at = rw (starts, lower_at y a i k below inside)

pub offset_small : (y : Layout) (a : List Float) (k start : ℕ) → start ≡ start_of y k → k ≤ y.order → Laid y a → start ≤ 1048576
offset_small y a k start starts below f = rw starts (start_small y k f.roomy below)

-- ---- the inner loops on plain offsets, and on the matrix

abbrev pub less_one_at : List Float → ℕ → Float → ℕ → List Float → List Float
less_one_at a start x i b = set b i (at b i ⊖ get_or a (i + start) nan ⊗ x)

abbrev pub less_two_at : List Float → ℕ → ℕ → Float → Float → ℕ → List Float → List Float
less_two_at a start next x z i b = set b i (at b i ⊖ get_or a (i + start) nan ⊗ x ⊖ get_or a (i + next) nan ⊗ z)

abbrev pub less_product_at : List Float → List Float → ℕ → ℕ → Float → Float
less_product_at a b start i x = x ⊖ get_or a (i + start) nan ⊗ at b i

module _ (y : Layout) (a : List Float) (k start : ℕ) (starts : start ≡ start_of y k) where
  pub less_one_law
      : (x : Float) (b : List Float)
      → for (k + 1) y.order (less_one_at a start x) b ≡ for (k + 1) y.order (less_one (load (lower y) a) k x) b
  unfolding less_one
  less_one_law x b = for_same _ _ _ _ b (λ i b low high. rw (offset_at y a k i start starts (omega arith) high))

  pub less_two_law
      : (next : ℕ) → next ≡ start_of y (k + 1) → (x z : Float) (b : List Float)
      → for (k + 2) y.order (less_two_at a start next x z) b ≡ for (k + 2) y.order (less_two (load (lower y) a) k x z) b
  unfolding less_two
  less_two_law next starts₂ x z b =
      for_same _ _ _ _ b
      (λ i b low high. rw (offset_at y a k i start starts (omega arith) high, offset_at y a (k + 1) i next starts₂ (omega arith) high))

  pub less_product_law
      : (from : ℕ) → k < from → (b : List Float) (x : Float)
      → for from y.order (less_product_at a b start) x ≡ for from y.order (less_product (load (lower y) a) b k) x
  unfolding less_product
  less_product_law from below b x = for_same _ _ _ _ x (λ i x low high. rw (offset_at y a k i start starts (omega arith) high))

  -- the row that is gathered on plain offsets
  pub gathered
      : (from : ℕ) → k < from → (b : List Float) {x : Float} → x ≡ for from y.order (less_product_at a b start) (at b k)
      → set b k x ≡ gather_row y.order (load (lower y) a) k from b
  unfolding gather_row
  gathered from below b e = rw (e, less_product_law from below b (at b k))
