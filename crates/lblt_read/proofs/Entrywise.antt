-- Two loops, entry by entry: ones put on the diagonal, two columns exchanged. Assumes nothing.
use mathlib.Core.Bool.{cond, ◌&&◌}
use mathlib.Core.Logic.{◌⊎◌, inl, inr}
use mathlib.Core.Path.{◌≡◌, refl, sym, ◌∙◌, ap, fun_ext}
use Prim.Native.Nat.{ℕ, ◌+◌, ◌≤◌, ◌<◌}
use native.Mathlib.Omega.{arith}
use borrow.Author.Tests.{eq-eqb, ne_eqb, lt-ltb, le-ltb}
use lib.Dec.{eqb, ltb}
use lib.Ieee.{nan}
use Rattle.answer.proofs.Tests.{eq_or_ne, lt_or_ge}
use Rattle.matrix.specs.Matrix.{Matrix, all_zero, entry, exchange}
use Rattle.matrix.specs.Loop.{for}
use Rattle.matrix.specs.Grid.{mask}
use Rattle.matrix.specs.Layouts.{square, in_square}
use Rattle.matrix.specs.Rounded.{plus_zero, one}
use Rattle.matrix.proofs.Loops.{for_still, for_at}
use Rattle.matrix.proofs.Stores.{entry_here, entry_row, entry_skip, swaps_skip, swaps_first, swaps_second}
use Rattle.lblt_read.specs.Permuted.{identity, swap_columns}

-- ---- ones on the diagonal

abbrev pub put_one : ℕ → Matrix → Matrix
put_one k M = entry M k k one

module _ (n : ℕ) (M : Matrix) where
  stored_one : (i : ℕ) → i < n → for 0 n put_one M i i ≡ one
  stored_one i below =
      ap (λ (N : Matrix). N i i) (for_at 0 n i put_one M (omega arith) below)
      ∙ for_still (λ (N : Matrix). N i i) (i + 1) n put_one (put_one i (for 0 i put_one M)) (λ k N from upto. entry_row N k k one i i (omega arith))
      ∙ entry_here (for 0 i put_one M) i i one

  left : (i j : ℕ) → ((k : ℕ) → k < n → i ≡ k → j ≡ k → ⊥) → for 0 n put_one M i j ≡ M i j
  left i j apart = for_still (λ (N : Matrix). N i j) 0 n put_one M (λ k N from upto. entry_skip N k k one i j (apart k upto))

pub identity_loop : (n : ℕ) → for 0 n put_one (mask (square n) all_zero) ≡ mask (square n) identity
unfolding mask square in_square identity
identity_loop n = fun_ext (λ i. fun_ext (λ j. at i j (eq_or_ne j i) (lt_or_ge i n)))
  where
    at : (i j : ℕ) → (j ≡ i) ⊎ (j ≡ i → ⊥) → (i < n) ⊎ (n ≤ i) → for 0 n put_one (mask (square n) all_zero) i j ≡ cond (ltb i n && ltb j n) (cond (eqb j i) one plus_zero) nan
    at i j (inl same) (inl below) = rw (same, lt-ltb i n below, eq-eqb i i refl) (stored_one n (mask (square n) all_zero) i below)
    at i j (inl same) (inr past) = left n (mask (square n) all_zero) i j (λ k upto e f. omega arith) ∙ rw (le-ltb i n past)
    at i j (inr other) d = left n (mask (square n) all_zero) i j (λ k upto e f. other (f ∙ sym e)) ∙ rw (ne_eqb j i other)

-- ---- two columns exchanged

abbrev pub swap_at : ℕ → ℕ → ℕ → Matrix → Matrix
swap_at p q row L = exchange L row p row q

pub swap_loop : (n p q : ℕ) (M : Matrix) → for 0 n (swap_at p q) M ≡ swap_columns n p q M
unfolding swap_columns
swap_loop n p q M = fun_ext (λ i. fun_ext (λ j. at i j (lt_or_ge i n) (eq_or_ne j q) (eq_or_ne j p)))
  where
    at : (i j : ℕ) → (i < n) ⊎ (n ≤ i) → (j ≡ q) ⊎ (j ≡ q → ⊥) → (j ≡ p) ⊎ (j ≡ p → ⊥)
        → for 0 n (swap_at p q) M i j ≡ cond (ltb i n) (cond (eqb j q) (M i p) (cond (eqb j p) (M i q) (M i j))) (M i j)
    at i j (inr past) d e = swaps_skip (λ r. r) (λ r. p) (λ r. r) (λ r. q) 0 n M i j (omega arith) ∙ rw (le-ltb i n past)
    at i j (inl below) (inl second) d =
        rw (lt-ltb i n below, eq-eqb j q second, second)
        (swaps_second (λ r. r) (λ r. p) (λ r. r) (λ r. q) 0 n i M (omega arith) below (omega arith))
    at i j (inl below) (inr not-second) (inl first) =
        rw (lt-ltb i n below, ne_eqb j q not-second, eq-eqb j p first, first)
        (swaps_first (λ r. r) (λ r. p) (λ r. r) (λ r. q) 0 n i M (omega arith) below (omega arith) (omega arith))
    at i j (inl below) (inr not-second) (inr not_first) =
        swaps_skip (λ r. r) (λ r. p) (λ r. r) (λ r. q) 0 n M i j (omega arith)
        ∙ rw (lt-ltb i n below, ne_eqb j q not-second, ne_eqb j p not_first)
