-- UDU and twin rows p < q of the upper part P. Assumes nothing.
use mathlib.Core.Path.{◌≡◌, refl, ap}
use mathlib.Core.Bool.{Bool, true, false, cond, ◌&&◌}
use Prim.Native.Nat.{ℕ, ◌+◌, ◌<◌}
use native.Mathlib.Omega.{arith}
use lib.Dec.{leb, eqb}
use borrow.Author.Tests.{ne_eqb, le-leb, eqb-true}
use lib.Ieee.{Float, eq}
use Rattle.matrix.specs.Matrix.{Matrix}
use Rattle.matrix.specs.Rounded.{◌⊕◌, ◌⊗◌, plus_zero}
use Rattle.matrix.proofs.Loops.{for_same, falling_keeps}
use Rattle.udu.specs.Columns.{Factors, nothing, plus_cross, cross_sum, udu_diagonal, last_entry, further_entry, udu_entry, with_diagonal, with_column, UduRun, accepted, refused, column_by, udu_column, udu_columns}
use Rattle.udu.specs.Promise.{factors_of}

module _ (P : Matrix) (n p q : ℕ) (apart : p < q) (twins : (c : ℕ) → q < c → c < n → P p c ≡ P q c) where
  abbrev pub Same : Factors → Type 0
  Same F = (c : ℕ) → q < c → F.u p c ≡ F.u q c

  same_sums : (F : Factors) → Same F → (j : ℕ) → q < j → cross_sum n F j p ≡ cross_sum n F j q
  unfolding cross_sum
  same_sums F same j after =
      for_same (j + 1) n (plus_cross F j p) (plus_cross F j q) plus_zero (λ k s from upto. ap (λ (y : Float). s ⊕ (F.d k ⊗ F.u j k) ⊗ y) (same k (omega arith)))

  -- a column behind q gets the same entries in rows p and q
  same_entries : (F : Factors) → Same F → (x : Float) (j : ℕ) → q < j → j < n → udu_entry n P F x j p ≡ udu_entry n P F x j q
  unfolding udu_entry last_entry further_entry
  same_entries F same x j after within =
      simp (ne_eqb p j (λ e. omega arith), ne_eqb q j (λ e. omega arith))
      (rw (twins j after within, same_sums F same j after))

  stored : (F : Factors) → Same F → (x : Float) (j : ℕ) → j < n → (c : ℕ) → q < c → (b : Bool) → eqb c j ≡ b
      → cond (b && leb p j) (udu_entry n P F x j p) (F.u p c) ≡ cond (b && leb q j) (udu_entry n P F x j q) (F.u q c)
  stored F same x j within c after true e =
      let here : c ≡ j = eqb-true c j e in
      simp (le-leb p j (omega arith), le-leb q j (omega arith)) (same_entries F same x j (omega arith) within)
  stored F same x j within c after false e = same c after

  same_by : (F : Factors) → Same F → (j : ℕ) → j < n → (x : Float) (b : Bool) → Same (factors_of (column_by n P F j x b))
  unfolding with_diagonal with_column
  same_by F same j within x true = same
  same_by F same j within x false = λ c after. stored F same x j within c after (eqb c j) refl

  same_column : (R : UduRun) → Same (factors_of R) → (j : ℕ) → j < n → Same (factors_of (udu_column n P j R))
  unfolding udu_column
  same_column (accepted F) same j within = same_by F same j within (udu_diagonal n P F j) (eq (udu_diagonal n P F j) plus_zero)
  same_column (refused k F) same j within = same

  -- u(p,c) = u(q,c) for every column c behind q, accepted or refused
  pub udu_twins : Same (factors_of (udu_columns n P))
  unfolding udu_columns nothing
  udu_twins =
      falling_keeps (λ i R. Same (factors_of R)) n (udu_column n P) (accepted nothing)
      (λ c after. refl) (λ j R within same. same_column R same j within)
