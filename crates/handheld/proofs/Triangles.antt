-- A triangle of three rows is the matrix that a slice holds, and back. Assumes nothing.
use mathlib.Core.Path.{◌≡◌, refl, sym, ◌∙◌}
use mathlib.Core.List.{List}
use Prim.Native.Nat.{ℕ, zero, suc, ◌≤◌, ◌<◌}
use native.Mathlib.Omega.{arith}
use lib.ListN.{get_or}
use lib.Ieee.{Float, nan}
use Rattle.matrix.specs.Matrix.{Matrix}
use Rattle.matrix.specs.Grid.{load}
use Rattle.matrix.specs.Layouts.{full, packed, lower}
use Rattle.matrix.proofs.Grids.{Bare, load_is, bare_load, bare_mask}
use Rattle.matrix.proofs.Places.{lower_low, lower_under}
use Rattle.handheld.specs.declared.Triangle.{Triangle}
use Rattle.handheld.specs.inner.Numbers.{in_nine}
use Rattle.handheld.specs.inner.Triangle.{six_of, matrix_of, triangle_of}

-- what holds of the six entries holds of every entry of the triangle
each_of_six : (P : ℕ → ℕ → Type 0) → P 0 0 → P 1 0 → P 2 0 → P 1 1 → P 2 1 → P 2 2 → (i j : ℕ) → j ≤ i → i < 3 → P i j
each_of_six P a b c d e f zero zero left low = a
each_of_six P a b c d e f (suc zero) zero left low = b
each_of_six P a b c d e f (suc zero) (suc zero) left low = d
each_of_six P a b c d e f (suc (suc zero)) zero left low = c
each_of_six P a b c d e f (suc (suc zero)) (suc zero) left low = e
each_of_six P a b c d e f (suc (suc zero)) (suc (suc zero)) left low = f
each_of_six P a b c d e f zero (suc j) left low = absurd (omega arith)
each_of_six P a b c d e f (suc zero) (suc (suc j)) left low = absurd (omega arith)
each_of_six P a b c d e f (suc (suc zero)) (suc (suc (suc j))) left low = absurd (omega arith)
each_of_six P a b c d e f (suc (suc (suc i))) j left low = absurd (omega arith)

module _ (M : Matrix) where
  six_at : (i j : ℕ) → j ≤ i → i < 3 → get_or (six_of (triangle_of M)) ((lower (packed 3)).place i j) nan ≡ M i j
  unfolding lower triangle_of
  six_at = each_of_six (λ i j. get_or (six_of (triangle_of M)) ((lower (packed 3)).place i j) nan ≡ M i j) refl refl refl refl refl refl

  -- a matrix with nothing outside the triangle
  pub six_back : Bare (lower (packed 3)) M → M ≡ matrix_of (triangle_of M)
  unfolding matrix_of
  six_back bare =
      sym (load_is (lower (packed 3)) (six_of (triangle_of M)) M (λ i j inside. six_at i j (lower_under (packed 3) i j inside) (lower_low (packed 3) i j inside)) ∙ bare_mask bare)

pub six_bare : (t : Triangle) → Bare (lower (packed 3)) (matrix_of t)
unfolding matrix_of
six_bare t = bare_load (lower (packed 3)) (six_of t)

module _ (l : List Float) where
  nine_at : (i j : ℕ) → j ≤ i → i < 3 → get_or l ((lower (full 3)).place i j) nan ≡ matrix_of (in_nine l) i j
  unfolding lower matrix_of load
  nine_at = each_of_six (λ i j. get_or l ((lower (full 3)).place i j) nan ≡ matrix_of (in_nine l) i j) refl refl refl refl refl refl

  nine_bare : Bare (lower (full 3)) (matrix_of (in_nine l))
  unfolding lower
  nine_bare = record { outside = (six_bare (in_nine l)).outside }

  pub full_six : load (lower (full 3)) l ≡ matrix_of (in_nine l)
  full_six = load_is (lower (full 3)) l (matrix_of (in_nine l)) (λ i j inside. nine_at i j (lower_under (full 3) i j inside) (lower_low (full 3) i j inside)) ∙ bare_mask nine_bare
