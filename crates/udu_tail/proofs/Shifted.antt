-- The run on the block of rows and columns m to n − 1, and the run on the whole. Assumes nothing.
--     block_run     the block's factors are those rows and columns of the whole's; the two answers
use Rattle.std.specs.Prelude.{Err}
use mathlib.Core.Bool.{Bool, true, false, cond, ◌&&◌}
use mathlib.Core.Path.{◌≡◌, refl, sym, ◌∙◌, ap, ap₂, subst, fun_ext}
use Prim.Native.Nat.{ℕ, ◌+◌, ◌-◌, ◌≤◌, ◌<◌}
use native.Mathlib.Omega.{arith}
use borrow.Author.Tests.{ne_eqb}
use lib.Dec.{T, leb, leb→le, eqb}
use lib.Ieee.{Float, eq}
use lib.Ieee.Fits.{and_r}
use Rattle.answer.specs.declared.Refusal.TheVariants.{ZeroDiagonal}
use Rattle.answer.proofs.Tests.{where_tested, eqb_shift, leb_shift}
use Rattle.matrix.specs.Matrix.{Matrix}
use Rattle.matrix.specs.Loop.{for, falling}
use Rattle.matrix.specs.Rounded.{◌⊖◌, ◌⊘◌, plus_zero, one}
use Rattle.matrix.proofs.Loops.{for_shift, falling_related, falling_keeps, falling_join}
use Rattle.udu.specs.Columns.{Factors, nothing, plus_square, plus_cross, square_sum, cross_sum, udu_diagonal, last_entry, further_entry, udu_entry, with_diagonal, with_column, UduRun, accepted, refused, column_by, udu_column, udu_columns}
use Rattle.udu.specs.Promise.{udu_answer, factors_of}
use Rattle.udu.proofs.Reached.{refused_stays}
use Rattle.udu_tail.specs.Tail.{finished, Beside, block_done, block_refused}
use Rattle.udu_tail.proofs.Past.{past_more}

-- the block's rows and columns of what was found
unfoldable pub tail : ℕ → Factors → Factors
tail m F = record { u = λ i k. F.u (m + i) (m + k); d = λ k. F.d (m + k) }

-- ---- the columns before m write no row or column from m on

module _ (n : ℕ) (P : Matrix) (m : ℕ) where
  tail_column : (R : UduRun) (j : ℕ) → j < m → tail m (factors_of (udu_column n P j R)) ≡ tail m (factors_of R)
  unfolding udu_column tail with_diagonal with_column
  tail_column (refused k F) j less = refl
  tail_column (accepted F) j less = by (udu_diagonal n P F j) (eq (udu_diagonal n P F j) plus_zero)
    where
      by : (x : Float) (b : Bool) → tail m (factors_of (column_by n P F j x b)) ≡ tail m F
      by x true =
          ap (λ (d : ℕ → Float). record { u = λ i k. F.u (m + i) (m + k); d = d })
          (fun_ext (λ k. simp (ne_eqb (m + k) j (λ e. omega arith))))
      by x false =
          ap₂ (λ (u : Matrix) (d : ℕ → Float). record { u = u; d = d })
          (fun_ext (λ i. fun_ext (λ k. simp (ne_eqb (m + k) j (λ e. omega arith)))))
          (fun_ext (λ k. simp (ne_eqb (m + k) j (λ e. omega arith))))

  tail_stays : (R : UduRun) → tail m (factors_of (falling m (udu_column n P) R)) ≡ tail m (factors_of R)
  tail_stays R =
      falling_keeps (λ i S. tail m (factors_of S) ≡ tail m (factors_of R)) m (udu_column n P) R refl (λ j S less is. tail_column S j less ∙ is)

-- ---- a column of the block is that column of the whole

module _ (m w n : ℕ) (sum : m + w ≡ n) (P Q : Matrix) (same : (i j : ℕ) → i ≤ j → j < w → Q i j ≡ P (m + i) (m + j)) where
  -- the run on the block, and the run on the whole over its columns
  data Shifted : UduRun → UduRun → Type 0 where
    both_accepted : (F : Factors) → Shifted (accepted (tail m F)) (accepted F)
    both_refused : (j : ℕ) (F : Factors) → Shifted (refused j (tail m F)) (refused (m + j) F)

  is_last : (j : ℕ) → eqb (j + 1) w ≡ eqb (m + j + 1) n
  is_last j = let place : m + (j + 1) ≡ m + j + 1 = omega arith in eqb_shift m (j + 1) w ∙ ap₂ eqb place sum

  shifted_sum : (f : ℕ → Float → Float) (j : ℕ) → for (j + 1) w (λ (k : ℕ). f (m + k)) plus_zero ≡ for (m + j + 1) n f plus_zero
  shifted_sum f j =
      let place : m + (j + 1) ≡ m + j + 1 = omega arith in
      for_shift m (j + 1) w f plus_zero ∙ ap₂ (λ (lo hi : ℕ). for lo hi f plus_zero) place sum

  diagonal_shift : (F : Factors) (j : ℕ) → j < w → udu_diagonal w Q (tail m F) j ≡ udu_diagonal n P F (m + j)
  unfolding udu_diagonal square_sum tail
  diagonal_shift F j below =
      rw (is_last j, same j j (omega arith) below)
      (ap (λ (s : Float). cond (eqb (m + j + 1) n) (P (m + j) (m + j)) (P (m + j) (m + j) ⊖ s)) (shifted_sum (plus_square F (m + j)) j))

  entry_shift : (F : Factors) (x : Float) (j i : ℕ) → i ≤ j → j < w → udu_entry w Q (tail m F) x j i ≡ udu_entry n P F x (m + j) (m + i)
  unfolding udu_entry last_entry further_entry cross_sum tail
  entry_shift F x j i row below =
      rw (is_last j, eqb_shift m i j, same i j row below)
      (ap (λ (s : Float). cond (eqb (m + j + 1) n) (last_entry P x (m + j) (m + i)) (cond (eqb (m + i) (m + j)) one ((P (m + i) (m + j) ⊖ s) ⊘ x)))
      (shifted_sum (plus_cross F (m + j) (m + i)) j))

  with_diagonal_shift : (F : Factors) (j : ℕ) (x : Float) → with_diagonal (tail m F) j x ≡ tail m (with_diagonal F (m + j) x)
  unfolding with_diagonal tail
  with_diagonal_shift F j x =
      ap (λ (d : ℕ → Float). record { u = λ i k. F.u (m + i) (m + k); d = d })
      (fun_ext (λ k. ap (λ (b : Bool). cond b x (F.d (m + k))) (eqb_shift m k j)))

  with_column_shift : (F : Factors) (j : ℕ) (v v' : ℕ → Float) → ((i : ℕ) → i ≤ j → v i ≡ v' (m + i)) → with_column (tail m F) j v ≡ tail m (with_column F (m + j) v')
  unfolding with_column tail
  with_column_shift F j v v' alike =
      ap (λ (u : Matrix). record { u = u; d = λ k. F.d (m + k) })
      (fun_ext (λ i. fun_ext (λ k.
      where_tested (eqb k j && leb i j) (F.u (m + i) (m + k)) (λ here. alike i (leb→le i j (and_r (eqb k j) (leb i j) (subst T (sym here) tt))))
      ∙ ap₂ (λ (a b : Bool). cond (a && b) (v' (m + i)) (F.u (m + i) (m + k))) (eqb_shift m k j) (leb_shift m i j))))

  by_shift : (F : Factors) (j : ℕ) → j < w → (x : Float) (b : Bool) → Shifted (column_by w Q (tail m F) j x b) (column_by n P F (m + j) x b)
  by_shift F j below x true =
      subst (λ (G : Factors). Shifted (refused j G) (refused (m + j) (with_diagonal F (m + j) x))) (sym (with_diagonal_shift F j x))
      (both_refused j (with_diagonal F (m + j) x))
  by_shift F j below x false =
      let G = with_diagonal F (m + j) x in
      subst (λ (H : Factors). Shifted (accepted H) (accepted (with_column G (m + j) (udu_entry n P F x (m + j)))))
      (sym (ap (λ (H : Factors). with_column H j (udu_entry w Q (tail m F) x j)) (with_diagonal_shift F j x)
      ∙ with_column_shift G j (udu_entry w Q (tail m F) x j) (udu_entry n P F x (m + j)) (λ i row. entry_shift F x j i row below)))
      (both_accepted (with_column G (m + j) (udu_entry n P F x (m + j))))

  column_shift : (j : ℕ) (R S : UduRun) → j < w → Shifted R S → Shifted (udu_column w Q j R) (udu_column n P (m + j) S)
  unfolding udu_column
  column_shift j R S below (both_accepted F) =
      subst (λ (x : Float). Shifted (column_by w Q (tail m F) j x (eq x plus_zero)) (column_by n P F (m + j) (udu_diagonal n P F (m + j)) (eq (udu_diagonal n P F (m + j)) plus_zero)))
      (sym (diagonal_shift F j below))
      (by_shift F j below (udu_diagonal n P F (m + j)) (eq (udu_diagonal n P F (m + j)) plus_zero))
  column_shift j R S below (both_refused k F) = both_refused k F

  -- the run on the whole once its columns from m on are done
  abbrev reached_m : UduRun
  reached_m = falling w (λ (j : ℕ). udu_column n P (m + j)) (accepted nothing)

  block_shifted : Shifted (udu_columns w Q) reached_m
  unfolding udu_columns nothing tail
  block_shifted =
      falling_related (λ (i : ℕ). Shifted) w (udu_column w Q) (λ (j : ℕ). udu_column n P (m + j)) (accepted nothing) (accepted nothing)
      (both_accepted nothing) (λ j R S below is. column_shift j R S below is)

  whole_is : udu_columns n P ≡ falling m (udu_column n P) reached_m
  unfolding udu_columns
  whole_is = ap (λ (k : ℕ). falling k (udu_column n P) (accepted nothing)) (sym sum) ∙ sym (falling_join m w (udu_column n P) (accepted nothing))

  -- what the whole finds and answers, once its columns before m are done
  block_by_law : (B S : UduRun) → Shifted B S
      → (factors_of B ≡ tail m (factors_of (falling m (udu_column n P) S))) × Beside m (udu_answer (falling m (udu_column n P) S)) (udu_answer B)
  block_by_law B S (both_accepted F) = (sym (tail_stays n P m (accepted F)), block_done (past_more n P m (accepted F) finished))
  block_by_law B S (both_refused j F) =
      let place : m + j - m ≡ j = omega arith in
      subst (λ (R : UduRun). (tail m F ≡ tail m (factors_of R)) × Beside m (udu_answer R) (Err (ZeroDiagonal j))) (sym (refused_stays n P m (m + j) F))
      (refl, subst (λ (k : ℕ). Beside m (Err (ZeroDiagonal (m + j))) (Err (ZeroDiagonal k))) place (block_refused (omega arith)))

  pub block_run : (factors_of (udu_columns w Q) ≡ tail m (factors_of (udu_columns n P))) × Beside m (udu_answer (udu_columns n P)) (udu_answer (udu_columns w Q))
  block_run =
      subst (λ (R : UduRun). (factors_of (udu_columns w Q) ≡ tail m (factors_of R)) × Beside m (udu_answer R) (udu_answer (udu_columns w Q))) (sym whole_is)
      (block_by_law (udu_columns w Q) reached_m block_shifted)
