-- What a pivot does to a triangle of three rows, way by way. Assumes nothing.
use mathlib.Core.Path.{◌≡◌, refl, sym, ◌∙◌, ap}
use Prim.Native.Nat.{ℕ}
use lib.Ieee.{Float, neg}
use Rattle.leaf.specs.Abs.{abs_of}
use Rattle.matrix.specs.Rounded.{◌⊕◌, ◌⊖◌, ◌⊗◌, ◌⊘◌, one}
use Rattle.matrix.specs.Matrix.{entry, exchange}
use Rattle.matrix.specs.Loop.{for, turns}
use Rattle.matrix.specs.Grid.{load}
use Rattle.matrix.specs.Layouts.{lower}
use Rattle.lblt_pivot.specs.Interchange.{swap_below, swap_between, interchange, brought1, brought2}
use Rattle.lblt_pivot.specs.Update.{rank1_at, rank1, scale_at, eliminate1, update1, block_by, block_at, rank2_at, rank2_by, rank2, update2}
use Rattle.lblt_pivot.specs.Pivot.{pivot1, pivot2}
use Rattle.lblt_pivot.specs.inner.Engine.{work_by}
use Rattle.lblt_pivot.specs.declared.rank2.Work.{Work}
use Rattle.handheld.specs.declared.Triangle.{Triangle}
use Rattle.handheld.specs.inner.Triangle.{matrix_of, triangle_of}

-- a pivot under another name
renamed1 : (k p q : ℕ) (t : Triangle) → p ≡ q → triangle_of (pivot1 3 k q (matrix_of t)) ≡ triangle_of (pivot1 3 k p (matrix_of t))
renamed1 k p q t is = ap (λ (p : ℕ). triangle_of (pivot1 3 k p (matrix_of t))) (sym is)

renamed2 : (k p q : ℕ) (t : Triangle) → p ≡ q → triangle_of (pivot2 3 k q (matrix_of t)) ≡ triangle_of (pivot2 3 k p (matrix_of t))
renamed2 k p q t is = ap (λ (p : ℕ). triangle_of (pivot2 3 k p (matrix_of t))) (sym is)

module _ (t : Triangle) where
  -- ---- size 1 at row 0

  pub first_updated
      : record {
        a00 = t.a00;
        a10 = t.a10 ⊗ (one ⊘ t.a00);
        a20 = t.a20 ⊗ (one ⊘ t.a00);
        a11 = t.a11 ⊕ t.a10 ⊗ neg (one ⊘ t.a00) ⊗ t.a10;
        a21 = t.a21 ⊕ t.a20 ⊗ neg (one ⊘ t.a00) ⊗ t.a10;
        a22 = t.a22 ⊕ t.a20 ⊗ neg (one ⊘ t.a00) ⊗ t.a20;
      } ≡ triangle_of (update1 3 0 (matrix_of t))
  unfolding triangle_of update1 eliminate1 rank1 rank1_at scale_at for turns entry matrix_of load lower
  first_updated = refl

  abbrev swapped01 : Triangle
  swapped01 = record { a00 = t.a11; a10 = t.a10; a20 = t.a21; a11 = t.a00; a21 = t.a20; a22 = t.a22 }

  abbrev swapped02 : Triangle
  swapped02 = record { a00 = t.a22; a10 = t.a21; a20 = t.a20; a11 = t.a11; a21 = t.a10; a22 = t.a00 }

  abbrev swapped12 : Triangle
  swapped12 = record { a00 = t.a00; a10 = t.a20; a20 = t.a10; a11 = t.a22; a21 = t.a21; a22 = t.a11 }

  abbrev swapped_last : Triangle
  swapped_last = record { a00 = t.a00; a10 = t.a10; a20 = t.a20; a11 = t.a22; a21 = t.a21; a22 = t.a11 }

  from_row0 : triangle_of (update1 3 0 (matrix_of t)) ≡ triangle_of (pivot1 3 0 0 (matrix_of t))
  unfolding pivot1 brought1
  from_row0 = refl

  from_row1 : triangle_of (update1 3 0 (matrix_of swapped01)) ≡ triangle_of (pivot1 3 0 1 (matrix_of t))
  unfolding pivot1 brought1 interchange swap_below swap_between exchange triangle_of update1 eliminate1 rank1 rank1_at scale_at for turns entry matrix_of load lower
  from_row1 = refl

  from_row2 : triangle_of (update1 3 0 (matrix_of swapped02)) ≡ triangle_of (pivot1 3 0 2 (matrix_of t))
  unfolding pivot1 brought1 interchange swap_below swap_between exchange triangle_of update1 eliminate1 rank1 rank1_at scale_at for turns entry matrix_of load lower
  from_row2 = refl

  pub first_own : {p : ℕ} {r : Triangle} → p ≡ 0 → r ≡ triangle_of (update1 3 0 (matrix_of t)) → r ≡ triangle_of (pivot1 3 0 p (matrix_of t))
  first_own {p} at is = is ∙ from_row0 ∙ renamed1 0 p 0 t at

  pub first_from1 : {p : ℕ} {r : Triangle} → p ≡ 1 → r ≡ triangle_of (update1 3 0 (matrix_of swapped01)) → r ≡ triangle_of (pivot1 3 0 p (matrix_of t))
  first_from1 {p} at is = is ∙ from_row1 ∙ renamed1 0 p 1 t at

  pub first_from2 : {p : ℕ} {r : Triangle} → p ≡ 2 → r ≡ triangle_of (update1 3 0 (matrix_of swapped02)) → r ≡ triangle_of (pivot1 3 0 p (matrix_of t))
  first_from2 {p} at is = is ∙ from_row2 ∙ renamed1 0 p 2 t at

  -- ---- size 2 at row 0

  pub both_updated : {d : Float} {w : Work}
      → d ≡ abs_of t.a10 → w ≡ work_by (record { d = d; d11 = t.a11 ⊘ d; d22 = t.a00 ⊘ d; d21 = t.a10 ⊘ d }) t.a20 t.a21
      → record { a00 = t.a00; a10 = t.a10; a20 = w.w1; a11 = t.a11; a21 = w.w2; a22 = t.a22 ⊖ t.a20 ⊗ w.w1 ⊖ t.a21 ⊗ w.w2 } ≡ triangle_of (update2 3 0 (matrix_of t))
  unfolding triangle_of update2 block_at block_by rank2 rank2_by rank2_at for turns entry matrix_of load lower work_by
  both_updated d-is w-is = rw (w-is, d-is)

  both_row1 : triangle_of (update2 3 0 (matrix_of t)) ≡ triangle_of (pivot2 3 0 1 (matrix_of t))
  unfolding pivot2 brought2
  both_row1 = refl

  both_row2 : triangle_of (update2 3 0 (matrix_of swapped12)) ≡ triangle_of (pivot2 3 0 2 (matrix_of t))
  unfolding pivot2 brought2 interchange swap_below swap_between exchange triangle_of update2 block_at block_by rank2 rank2_by rank2_at for turns entry matrix_of load lower
  both_row2 = refl

  pub both_own : {p : ℕ} {r : Triangle} → p ≡ 1 → r ≡ triangle_of (update2 3 0 (matrix_of t)) → r ≡ triangle_of (pivot2 3 0 p (matrix_of t))
  both_own {p} at is = is ∙ both_row1 ∙ renamed2 0 p 1 t at

  pub both_from2 : {p : ℕ} {r : Triangle} → p ≡ 2 → r ≡ triangle_of (update2 3 0 (matrix_of swapped12)) → r ≡ triangle_of (pivot2 3 0 p (matrix_of t))
  both_from2 {p} at is = is ∙ both_row2 ∙ renamed2 0 p 2 t at

  -- ---- size 1 at row 1

  pub second_updated
      : record {
        a00 = t.a00;
        a10 = t.a10;
        a20 = t.a20;
        a11 = t.a11;
        a21 = t.a21 ⊗ (one ⊘ t.a11);
        a22 = t.a22 ⊕ t.a21 ⊗ neg (one ⊘ t.a11) ⊗ t.a21;
      } ≡ triangle_of (update1 3 1 (matrix_of t))
  unfolding triangle_of update1 eliminate1 rank1 rank1_at scale_at for turns entry matrix_of load lower
  second_updated = refl

  second_row1 : triangle_of (update1 3 1 (matrix_of t)) ≡ triangle_of (pivot1 3 1 1 (matrix_of t))
  unfolding pivot1 brought1
  second_row1 = refl

  second_row2 : triangle_of (update1 3 1 (matrix_of swapped_last)) ≡ triangle_of (pivot1 3 1 2 (matrix_of t))
  unfolding pivot1 brought1 interchange swap_below swap_between exchange triangle_of update1 eliminate1 rank1 rank1_at scale_at for turns entry matrix_of load lower
  second_row2 = refl

  pub second_own : {p : ℕ} {r : Triangle} → p ≡ 1 → r ≡ triangle_of (update1 3 1 (matrix_of t)) → r ≡ triangle_of (pivot1 3 1 p (matrix_of t))
  second_own {p} at is = is ∙ second_row1 ∙ renamed1 1 p 1 t at

  pub second_from2 : {p : ℕ} {r : Triangle} → p ≡ 2 → r ≡ triangle_of (update1 3 1 (matrix_of swapped_last)) → r ≡ triangle_of (pivot1 3 1 p (matrix_of t))
  second_from2 {p} at is = is ∙ second_row2 ∙ renamed1 1 p 2 t at
