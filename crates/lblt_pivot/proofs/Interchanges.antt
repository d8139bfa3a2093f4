-- The interchange, from what its parts leave in the slice. Assumes nothing.
use mathlib.Core.Path.{◌≡◌}
use mathlib.Core.List.{List}
use Prim.Native.Nat.{ℕ, ◌+◌}
use lib.Ieee.{Float}
use borrow.Author.Tests.{eq-eqb, ne_eqb}
use Rattle.matrix.specs.Matrix.{Matrix, exchange}
use Rattle.matrix.specs.Loop.{for}
use Rattle.matrix.specs.Grid.{Grid, Sound, Holds, load}
use Rattle.matrix.proofs.Grids.{holds_none, holds_then}
use Rattle.lblt_pivot.specs.Interchange.{swap_below, swap_between, interchange, brought1, brought2}

module _ {g : Grid} {l : List Float} (n k p : ℕ) where
  pub interchanges : {l₁ l₂ l₃ : List Float}
      → Holds g l l₁ (for (p + 1) n (swap_below k p) (load g l)) → Holds g l₁ l₂ (for (k + 1) p (swap_between k p) (load g l₁)) → Holds g l₂ l₃ (exchange (load g l₂) k k p p)
      → Holds g l l₃ (interchange n k p (load g l))
  unfolding interchange
  interchanges below between diagonals =
      holds_then (λ (M : Matrix). exchange M k k p p) (holds_then (λ (M : Matrix). for (k + 1) p (swap_between k p) M) below between) diagonals

  pub in_place1 : p ≡ k → Sound g l → Holds g l l (brought1 n k p (load g l))
  unfolding brought1
  in_place1 same good = rw (eq-eqb p k same) (holds_none good)

  pub brings1 : {l₁ : List Float} → (p ≡ k → ⊥) → Holds g l l₁ (interchange n k p (load g l)) → Holds g l l₁ (brought1 n k p (load g l))
  unfolding brought1
  brings1 other all = rw (ne_eqb p k other) all

  pub in_place2 : p ≡ k + 1 → Sound g l → Holds g l l (brought2 n k p (load g l))
  unfolding brought2
  in_place2 same good = rw (eq-eqb p (k + 1) same) (holds_none good)

  pub brings2 : {l₁ l₂ : List Float} → (p ≡ k + 1 → ⊥) → Holds g l l₁ (interchange n (k + 1) p (load g l)) → Holds g l₁ l₂ (exchange (load g l₁) (k + 1) k p k)
      → Holds g l l₂ (brought2 n k p (load g l))
  unfolding brought2
  brings2 other all corner = rw (ne_eqb p (k + 1) other) (holds_then (λ (M : Matrix). exchange M (k + 1) k p k) all corner)
