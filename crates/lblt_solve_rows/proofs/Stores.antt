-- Writing into the columns of a slice: number i of column j stands at j·n + i.
--     store_one, store_two          one number of a column stored, and two
use Rattle.std.specs.Prelude.{List, ◌++◌, ◌≡◌, refl, ℕ, ◌+◌, ◌*◌, ◌<◌, Float, get_or, set, take, drop}
use Rattle.std.specs.Float.{nan}
use Rattle.std.proofs.Common.{sym, ap, ◌∙◌, arith, take-append-drop, drop-set-lt}
use Rattle.std.proofs.Math.Seq.{take-set-le, drop-set-add, take-set-lt}
use Rattle.matrix.specs.Rounded.{◌⊖◌, ◌⊗◌, ◌⊘◌}
use Rattle.matrix.specs.Columns.{at, column, at_column}
use Rattle.lblt_solve_columns.specs.Column.{swap_rows}
use Rattle.lblt_solve_rows.specs.inner.Rows.{less_row}
use Rattle.matrix.proofs.ColumnsLent.{number_at}

-- `divide_one` and `divide_two`, given the numbers of the block
abbrev pub divide_by : ℕ → Float → List Float → List Float
divide_by k d b = set b k (at b k ⊘ d)

abbrev pub divide_two_by : ℕ → Float → Float → Float → Float → List Float → List Float
divide_two_by k d11 d22 d21 det b =
    set
    (set b k ((at b k ⊗ d22 ⊖ at b (k + 1) ⊗ d21) ⊘ det))
    (k + 1)
    ((at b (k + 1) ⊗ d11 ⊖ at b k ⊗ d21) ⊘ det)

module _ (n j : ℕ) (b : List Float) where
  -- a slice is what stands before a column, the column, and what stands behind it
  parts : (l : List Float) → take (j * n) l ++ (take n (drop (j * n) l) ++ drop n (drop (j * n) l)) ≡ l
  parts l = ap (λ (r : List Float). take (j * n) l ++ r) (take-append-drop n (drop (j * n) l)) ∙ take-append-drop (j * n) l

  pub store_one
      : (f : List Float → List Float) (i : ℕ) (v : Float) → i < n → f (column n j b) ≡ set (column n j b) i v
      → set b (j * n + i) v ≡ at_column n f j b
  unfolding at_column column
  store_one f i v below e =
      sym (parts (set b (j * n + i) v))
      ∙ simp (
        take-set-le (j * n) b (j * n + i) v (omega arith),
        drop-set-add (j * n) b i v,
        take-set-lt n (drop (j * n) b) i v below,
        drop-set-lt n (drop (j * n) b) i v below,
        e,
      )

  pub store_two
      : (f : List Float → List Float) (p q : ℕ) (v w : Float) → p < n → q < n → f (column n j b) ≡ set (set (column n j b) p v) q w
      → set (set b (j * n + p) v) (j * n + q) w ≡ at_column n f j b
  unfolding at_column column
  store_two f p q v w hp hq e =
      sym (parts (set (set b (j * n + p) v) (j * n + q) w))
      ∙ simp (
        take-set-le (j * n) (set b (j * n + p) v) (j * n + q) w (omega arith),
        take-set-le (j * n) b (j * n + p) v (omega arith),
        drop-set-add (j * n) (set b (j * n + p) v) q w,
        drop-set-add (j * n) b p v,
        take-set-lt n (set (drop (j * n) b) p v) q w hq,
        take-set-lt n (drop (j * n) b) p v hp,
        drop-set-lt n (set (drop (j * n) b) p v) q w hq,
        drop-set-lt n (drop (j * n) b) p v hp,
        e,
      )

  -- ---- the steps of `less_row`, `swap_rows`, `divide_one` and `divide_two`

  pub less_at
      : (i k : ℕ) (x : Float) → i < n → k < n
      → set b (j * n + i) (get_or b (j * n + i) nan ⊖ x ⊗ get_or b (j * n + k) nan) ≡ at_column n (less_row i k x) j b
  unfolding less_row
  less_at i k x hi hk = store_one (less_row i k x) i _ hi (rw (sym (number_at n j b i hi), sym (number_at n j b k hk)) refl)

  pub swap_at
      : (p q : ℕ) → p < n → q < n
      → set (set b (j * n + p) (get_or b (j * n + q) nan)) (j * n + q) (get_or b (j * n + p) nan) ≡ at_column n (λ l. swap_rows l p q) j b
  unfolding swap_rows
  swap_at p q hp hq = store_two (λ l. swap_rows l p q) p q _ _ hp hq (rw (sym (number_at n j b p hp), sym (number_at n j b q hq)) refl)

  pub divide_at : (k : ℕ) (d : Float) → k < n → set b (j * n + k) (get_or b (j * n + k) nan ⊘ d) ≡ at_column n (divide_by k d) j b
  divide_at k d h = store_one (divide_by k d) k _ h (rw (sym (number_at n j b k h)) refl)

  pub divide_two_at
      : (k : ℕ) (d11 d22 d21 det : Float) → k + 1 < n
      → set
      (set b (j * n + k) ((get_or b (j * n + k) nan ⊗ d22 ⊖ get_or b (j * n + k + 1) nan ⊗ d21) ⊘ det))
      (j * n + k + 1)
      ((get_or b (j * n + k + 1) nan ⊗ d11 ⊖ get_or b (j * n + k) nan ⊗ d21) ⊘ det)
      ≡ at_column n (divide_two_by k d11 d22 d21 det) j b
  divide_two_at k d11 d22 d21 det h =
      let next : j * n + k + 1 ≡ j * n + (k + 1) = omega arith in
      rw next
      (store_two (divide_two_by k d11 d22 d21 det) k (k + 1) _ _ (omega arith) h (rw (sym (number_at n j b k (omega arith)), sym (number_at n j b (k + 1) h)) refl))
