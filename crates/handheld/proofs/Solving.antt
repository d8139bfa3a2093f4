-- The solve of one side, for each way in which three rows fall into blocks. Assumes nothing.
use mathlib.Core.Path.{◌≡◌, refl, sym, ◌∙◌, ap}
use mathlib.Core.List.{List, [], ◌∷◌}
use Prim.Native.Nat.{ℕ}
use lib.Ieee.{Float}
use Rattle.matrix.specs.Rounded.{◌⊖◌, ◌⊗◌, ◌⊘◌}
use Rattle.matrix.specs.Matrix.{Matrix}
use Rattle.matrix.specs.Loop.{for, turns}
use Rattle.matrix.specs.Grid.{load}
use Rattle.matrix.specs.Layouts.{lower}
use Rattle.pivots.specs.Blocks.{by_size, rows_of, blocks_from, forwards, blocks_to, backwards}
use Rattle.substitution.specs.Steps.{less_one, less_two, eliminate_one, eliminate_two, divide_one, less_product, gather_row}
use Rattle.lblt_solve_columns.specs.Column.{swap_rows, forward_block, block_determinant, divide_two, divide_block, backward_block, solve_column}
use Rattle.handheld.specs.declared.Triangle.{Triangle}
use Rattle.handheld.specs.declared.numbers.Three.{Three}
use Rattle.handheld.specs.inner.Numbers.{three_of}
use Rattle.handheld.specs.inner.Triangle.{matrix_of}
use Rattle.handheld.specs.inner.Blocks.{one_one_one, one_two, two_one}

-- ---- two rows exchanged

module _ (s : Three) {p : ℕ} where
  pub swap_none0 : p ≡ 0 → swap_rows (three_of s) 0 p ≡ three_of s
  unfolding swap_rows
  swap_none0 at = ap (swap_rows (three_of s) 0) at

  pub swap_01 : p ≡ 1 → swap_rows (three_of s) 0 p ≡ s.y ∷ s.x ∷ s.z ∷ []
  unfolding swap_rows
  swap_01 at = ap (swap_rows (three_of s) 0) at

  pub swap_02 : p ≡ 2 → swap_rows (three_of s) 0 p ≡ s.z ∷ s.y ∷ s.x ∷ []
  unfolding swap_rows
  swap_02 at = ap (swap_rows (three_of s) 0) at

  pub swap_none1 : p ≡ 1 → swap_rows (three_of s) 1 p ≡ three_of s
  unfolding swap_rows
  swap_none1 at = ap (swap_rows (three_of s) 1) at

  pub swap_12 : p ≡ 2 → swap_rows (three_of s) 1 p ≡ s.x ∷ s.z ∷ s.y ∷ []
  unfolding swap_rows
  swap_12 at = ap (swap_rows (three_of s) 1) at

-- ---- the three ways, on any side

module _ (A : Matrix) (mark run : ℕ) where
  ones_steps : (i0 i1 : ℕ) (b : List Float) → solve_column 3 A (one_one_one i0 i1 mark run) b
      ≡ swap_rows (gather_row 3 A 0 1 (swap_rows (gather_row 3 A 1 2 (swap_rows (gather_row 3 A 2 3
      (divide_one A 2 (divide_one A 1 (divide_one A 0
      (eliminate_one 3 A 2 (swap_rows (eliminate_one 3 A 1 (swap_rows (eliminate_one 3 A 0 (swap_rows b 0 i0)) 1 i1)) 2 2))
      )))) 2 2)) 1 i1)) 0 i0
  unfolding solve_column forwards backwards blocks_from blocks_to by_size rows_of forward_block divide_block backward_block
  ones_steps i0 i1 b = refl

  one_two_steps : (i0 : ℕ) (b : List Float) → solve_column 3 A (one_two i0 mark run) b
      ≡ swap_rows (gather_row 3 A 0 1 (swap_rows (gather_row 3 A 1 3 (gather_row 3 A 2 3
      (divide_two A 1 (divide_one A 0
      (eliminate_two 3 A 1 (swap_rows (eliminate_one 3 A 0 (swap_rows b 0 i0)) 2 2))
      )))) 2 2)) 0 i0
  unfolding solve_column forwards backwards blocks_from blocks_to by_size rows_of forward_block divide_block backward_block
  one_two_steps i0 b = refl

  two_one_steps : (i0 : ℕ) (b : List Float) → solve_column 3 A (two_one i0 mark run) b
      ≡ swap_rows (gather_row 3 A 0 2 (gather_row 3 A 1 2 (swap_rows (gather_row 3 A 2 3
      (divide_one A 2 (divide_two A 0
      (eliminate_one 3 A 2 (swap_rows (eliminate_two 3 A 0 (swap_rows b 1 i0)) 2 2))
      ))) 2 2))) 1 i0
  unfolding solve_column forwards backwards blocks_from blocks_to by_size rows_of forward_block divide_block backward_block
  two_one_steps i0 b = refl

-- ---- the same, by what the code has found

module _ (t : Triangle) (b s : Three) where
  abbrev A : Matrix
  A = matrix_of t

  pub ones_solved : (i0 i1 : ℕ) (u v r : Three)
      → swap_rows (three_of b) 0 i0 ≡ three_of s
      → swap_rows (s.x ∷ (s.y ⊖ t.a10 ⊗ s.x) ∷ (s.z ⊖ t.a20 ⊗ s.x) ∷ []) 1 i1 ≡ three_of u
      → swap_rows
      ((u.x ⊘ t.a00)
      ∷ (u.y ⊘ t.a11 ⊖ t.a21 ⊗ ((u.z ⊖ t.a21 ⊗ u.y) ⊘ t.a22))
      ∷ ((u.z ⊖ t.a21 ⊗ u.y) ⊘ t.a22)
      ∷ []) 1 i1 ≡ three_of v
      → swap_rows ((v.x ⊖ t.a10 ⊗ v.y ⊖ t.a20 ⊗ v.z) ∷ v.y ∷ v.z ∷ []) 0 i0 ≡ three_of r
      → (mark run : ℕ) → three_of r ≡ solve_column 3 (matrix_of t) (one_one_one i0 i1 mark run) (three_of b)
  unfolding eliminate_one less_one divide_one gather_row less_product for turns swap_rows matrix_of load lower
  ones_solved i0 i1 u v r is1 is2 is3 is4 mark run =
      sym (ones_steps A mark run i0 i1 (three_of b)
      ∙ ap (λ (l : List Float). end (divided (swap_rows (eliminate_one 3 A 0 l) 1 i1))) is1
      ∙ ap (λ (l : List Float). end (divided l)) is2
      ∙ ap (λ (l : List Float). swap_rows (gather_row 3 A 0 1 l) 0 i0) is3
      ∙ is4)
    where
      divided : List Float → List Float
      divided l = gather_row 3 A 1 2 (swap_rows (gather_row 3 A 2 3 (divide_one A 2 (divide_one A 1 (divide_one A 0 (eliminate_one 3 A 2 (swap_rows (eliminate_one 3 A 1 l) 2 2)))))) 2 2)

      end : List Float → List Float
      end l = swap_rows (gather_row 3 A 0 1 (swap_rows l 1 i1)) 0 i0

  module _ (i0 : ℕ) (r : Three) where
    abbrev u : Float
    u = s.y ⊖ t.a10 ⊗ s.x

    abbrev v : Float
    v = s.z ⊖ t.a20 ⊗ s.x

    abbrev det : Float
    det = t.a11 ⊗ t.a22 ⊖ t.a21 ⊗ t.a21

    pub one_two_solved
        : swap_rows (three_of b) 0 i0 ≡ three_of s
        → swap_rows
        ((s.x ⊘ t.a00 ⊖ t.a10 ⊗ ((u ⊗ t.a22 ⊖ v ⊗ t.a21) ⊘ det) ⊖ t.a20 ⊗ ((v ⊗ t.a11 ⊖ u ⊗ t.a21) ⊘ det))
        ∷ ((u ⊗ t.a22 ⊖ v ⊗ t.a21) ⊘ det)
        ∷ ((v ⊗ t.a11 ⊖ u ⊗ t.a21) ⊘ det)
        ∷ []) 0 i0 ≡ three_of r
        → (mark run : ℕ) → three_of r ≡ solve_column 3 (matrix_of t) (one_two i0 mark run) (three_of b)
    unfolding eliminate_one eliminate_two less_one divide_one divide_two block_determinant gather_row less_product for turns swap_rows matrix_of load lower
    one_two_solved is1 is2 mark run = sym (one_two_steps A mark run i0 (three_of b) ∙ ap rest is1 ∙ is2)
      where
        rest : List Float → List Float
        rest l = swap_rows (gather_row 3 A 0 1 (swap_rows (gather_row 3 A 1 3 (gather_row 3 A 2 3 (divide_two A 1 (divide_one A 0 (eliminate_two 3 A 1 (swap_rows (eliminate_one 3 A 0 l) 2 2)))))) 2 2)) 0 i0

    abbrev det0 : Float
    det0 = t.a00 ⊗ t.a11 ⊖ t.a10 ⊗ t.a10

    abbrev z : Float
    z = (s.z ⊖ t.a20 ⊗ s.x ⊖ t.a21 ⊗ s.y) ⊘ t.a22

    pub two_one_solved
        : swap_rows (three_of b) 1 i0 ≡ three_of s
        → swap_rows
        (((s.x ⊗ t.a11 ⊖ s.y ⊗ t.a10) ⊘ det0 ⊖ t.a20 ⊗ z)
        ∷ ((s.y ⊗ t.a00 ⊖ s.x ⊗ t.a10) ⊘ det0 ⊖ t.a21 ⊗ z)
        ∷ z
        ∷ []) 1 i0 ≡ three_of r
        → (mark run : ℕ) → three_of r ≡ solve_column 3 (matrix_of t) (two_one i0 mark run) (three_of b)
    unfolding eliminate_one eliminate_two less_two divide_one divide_two block_determinant gather_row less_product for turns swap_rows matrix_of load lower
    two_one_solved is1 is2 mark run = sym (two_one_steps A mark run i0 (three_of b) ∙ ap rest is1 ∙ is2)
      where
        rest : List Float → List Float
        rest l = swap_rows (gather_row 3 A 0 2 (gather_row 3 A 1 2 (swap_rows (gather_row 3 A 2 3 (divide_one A 2 (divide_two A 0 (eliminate_one 3 A 2 (swap_rows (eliminate_two 3 A 0 l) 2 2))))) 2 2))) 1 i0
