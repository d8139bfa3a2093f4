-- The interchange of rows and columns t and s renames the rows of the symmetric matrix. Assumes nothing.
use mathlib.Core.Path.{◌≡◌, refl, sym, ◌∙◌}
use mathlib.Core.Bool.{cond}
use Prim.Native.Nat.{ℕ, ◌+◌, ◌≤◌, ◌<◌}
use native.Mathlib.Decide.{dec_lt}
use native.Mathlib.Omega.{arith}
use lib.Dec.{eqb}
use borrow.Author.Tests.{eqb-true, eqb-false}
use Rattle.matrix.specs.Matrix.{Matrix, exchange}
use Rattle.matrix.specs.Loop.{for}
use Rattle.lblt_pivot.specs.Interchange.{swap_below, swap_between, interchange, brought1, brought2}
use Rattle.answer.proofs.Tests.{either}
use Rattle.matrix.proofs.Stores.{exchange_skip, exchange_first, exchange_second, Apart, swaps_skip, swaps_first, swaps_second}
use Rattle.twins.specs.Twins.{symmetric}
use Rattle.twins.proofs.Clauses.{at_lower, at_upper}

-- ---- the interchange, entry by entry

record Interchanged (n t s : ℕ) (M N : Matrix) : Type 0 where
  other : (r c : ℕ) → (c ≡ t → ⊥) → (c ≡ s → ⊥) → (r ≡ s → c < t) → N r c ≡ M r c
  first : N t t ≡ M s s
  second : N s s ≡ M t t
  corner : N s t ≡ M s t
  below_first : (r : ℕ) → s < r → r < n → N r t ≡ M r s
  below_second : (r : ℕ) → s < r → r < n → N r s ≡ M r t
  between_first : (r : ℕ) → t < r → r < s → N r t ≡ M s r
  between_second : (r : ℕ) → t < r → r < s → N s r ≡ M r t

interchanged : (n t s : ℕ) (M : Matrix) → t < s → Interchanged n t s M (interchange n t s M)
unfolding interchange swap_below swap_between
interchanged n t s M apart = record {
  other = λ r c not_t not-s left.
      exchange_skip Z t t s s r c (λ e f. not_t f) (λ e f. not-s f)
      ∙ between_skip r c (λ j low high. ((λ e f. not_t f), (λ e f. let before : c < t = left e in omega arith)))
      ∙ below_skip r c (λ i low high. ((λ e f. not_t f), (λ e f. not-s f)));
  first = exchange_first Z t t s s (omega arith) ∙ between_skip s s (omega arith) ∙ below_skip s s (omega arith);
  second = exchange_second Z t t s s ∙ between_skip t t (omega arith) ∙ below_skip t t (omega arith);
  corner =
      exchange_skip Z t t s s s t (omega arith) (omega arith)
      ∙ between_skip s t (omega arith)
      ∙ below_skip s t (omega arith);
  below_first = λ r low high.
      exchange_skip Z t t s s r t (omega arith) (omega arith)
      ∙ between_skip r t (omega arith)
      ∙ swaps_first (λ i. i) (λ i. t) (λ i. i) (λ i. s) (s + 1) n r M (omega arith) high (omega arith) (omega arith);
  below_second = λ r low high.
      exchange_skip Z t t s s r s (omega arith) (omega arith)
      ∙ between_skip r s (omega arith)
      ∙ swaps_second (λ i. i) (λ i. t) (λ i. i) (λ i. s) (s + 1) n r M (omega arith) high (omega arith);
  between_first = λ r low high.
      exchange_skip Z t t s s r t (omega arith) (omega arith)
      ∙ swaps_first (λ j. j) (λ j. t) (λ j. s) (λ j. j) (t + 1) s r X (omega arith) high (omega arith) (omega arith)
      ∙ below_skip s r (omega arith);
  between_second = λ r low high.
      exchange_skip Z t t s s s r (omega arith) (omega arith)
      ∙ swaps_second (λ j. j) (λ j. t) (λ j. s) (λ j. j) (t + 1) s r X (omega arith) high (omega arith)
      ∙ below_skip r t (omega arith);
}
  where
    X : Matrix
    X = for (s + 1) n (swap_below t s) M

    Z : Matrix
    Z = for (t + 1) s (swap_between t s) X

    below_skip : (x y : ℕ) → ((i : ℕ) → s + 1 ≤ i → i < n → Apart (λ i. i) (λ i. t) (λ i. i) (λ i. s) i x y) → X x y ≡ M x y
    below_skip x y h = swaps_skip (λ i. i) (λ i. t) (λ i. i) (λ i. s) (s + 1) n M x y h

    between_skip : (x y : ℕ) → ((j : ℕ) → t + 1 ≤ j → j < s → Apart (λ j. j) (λ j. t) (λ j. s) (λ j. j) j x y) → Z x y ≡ X x y
    between_skip x y h = swaps_skip (λ j. j) (λ j. t) (λ j. s) (λ j. j) (t + 1) s X x y h

-- ---- rows and columns renamed

-- s for t, and t for s
unfoldable pub renamed : ℕ → ℕ → ℕ → ℕ
renamed t s i = cond (eqb i t) s (cond (eqb i s) t i)

module _ (t s : ℕ) where
  pub by_name : (P : ℕ → Type 0) (i : ℕ) → (i ≡ t → P s) → (i ≡ s → P t) → ((i ≡ t → ⊥) → (i ≡ s → ⊥) → P i) → P (renamed t s i)
  unfolding renamed
  by_name P i first second other =
      either P (eqb i t) (λ e. first (eqb-true i t e)) (λ e. either P (eqb i s) (λ f. second (eqb-true i s f)) (λ f. other (eqb-false i t e) (eqb-false i s f)))

  pub renamed_first : renamed t s t ≡ s
  renamed_first = by_name (λ (j : ℕ). j ≡ s) t (λ e. refl) (λ e. e) (λ not_t not-s. absurd (not_t refl))

  pub renamed_other : (i : ℕ) → (i ≡ t → ⊥) → (i ≡ s → ⊥) → renamed t s i ≡ i
  renamed_other i not_t not-s = by_name (λ (j : ℕ). j ≡ i) i (λ e. absurd (not_t e)) (λ e. absurd (not-s e)) (λ h h'. refl)

-- the symmetric matrix of N is that of M renamed, in the rows and columns from k on
pub record Renaming (k n t s : ℕ) (M N : Matrix) : Type 0 where
  pub at : (i j : ℕ) → k ≤ i → i < n → k ≤ j → j < n → symmetric N i j ≡ symmetric M (renamed t s i) (renamed t s j)

-- nothing is renamed where s is t
in_place_law : {k n t s : ℕ} {M : Matrix} → s ≡ t → Renaming k n t s M M
in_place_law {k} {n} {t} {s} {M} same = record { at = λ i j from upto from' upto'. rw (as_it_is i, as_it_is j) }
  where
    as_it_is : (i : ℕ) → renamed t s i ≡ i
    as_it_is i = by_name t s (λ (j : ℕ). j ≡ i) i (λ e. same ∙ sym e) (λ e. sym same ∙ sym e) (λ not_t not-s. refl)

pub flip : (M : Matrix) (i j : ℕ) → symmetric M i j ≡ symmetric M j i
flip M i j = pick (dec_lt i j) (dec_lt j i)
  where
    pick : Dec (i < j) → Dec (j < i) → symmetric M i j ≡ symmetric M j i
    pick (yes lt) d = at_upper M i j lt ∙ sym (at_lower M j i (omega arith))
    pick (no nlt) (yes gt) = at_lower M i j (omega arith) ∙ sym (at_upper M j i gt)
    pick (no nlt) (no ngt) = let same : i ≡ j = omega arith in rw same

-- the lower part is enough
by_lower : {k n t s : ℕ} {M N : Matrix} → ((i j : ℕ) → k ≤ j → j ≤ i → i < n → N i j ≡ symmetric M (renamed t s i) (renamed t s j)) → Renaming k n t s M N
by_lower {k} {n} {t} {s} {M} {N} low = record { at = λ i j from upto from' upto'. pick i j from upto from' upto' (dec_lt i j) }
  where
    pick : (i j : ℕ) → k ≤ i → i < n → k ≤ j → j < n → Dec (i < j) → symmetric N i j ≡ symmetric M (renamed t s i) (renamed t s j)
    pick i j from upto from' upto' (yes lt) = at_upper N i j lt ∙ low j i from (omega arith) upto' ∙ flip M (renamed t s j) (renamed t s i)
    pick i j from upto from' upto' (no nlt) = at_lower N i j (omega arith) ∙ low i j from' (omega arith) upto

module _ {n t s : ℕ} {M N : Matrix} (apart : t < s) (I : Interchanged n t s M N) where
  at_first : (i : ℕ) → t < i → i < n → (i ≡ s → ⊥) → Dec (i < s) → N i t ≡ symmetric M i s
  at_first i after upto not (yes lt) = I.between_first i after lt ∙ sym (at_upper M i s lt)
  at_first i after upto not (no nlt) = I.below_first i (omega arith) upto ∙ sym (at_lower M i s (omega arith))

  lower_renamed : (i j : ℕ) → t ≤ j → j ≤ i → i < n → N i j ≡ symmetric M (renamed t s i) (renamed t s j)
  lower_renamed i j from low upto =
      by_name t s (λ (y : ℕ). N i j ≡ symmetric M (renamed t s i) y) j
      (λ (f : j ≡ t).
      by_name t s (λ (x : ℕ). N i j ≡ symmetric M x s) i
      (λ (e : i ≡ t). rw (e, f) (I.first ∙ sym (at_lower M s s (omega arith))))
      (λ (e : i ≡ s). rw (e, f) (I.corner ∙ sym (at_upper M t s apart)))
      (λ not_t not-s. rw f (at_first i (omega arith) upto not-s (dec_lt i s))))
      (λ (f : j ≡ s).
      by_name t s (λ (x : ℕ). N i j ≡ symmetric M x t) i
      (λ (e : i ≡ t). absurd (omega arith))
      (λ (e : i ≡ s). rw (e, f) (I.second ∙ sym (at_lower M t t (omega arith))))
      (λ not_t not-s. rw f (I.below_second i (omega arith) upto ∙ sym (at_lower M i t (omega arith)))))
      (λ no-t no-s.
      by_name t s (λ (x : ℕ). N i j ≡ symmetric M x j) i
      (λ (e : i ≡ t). absurd (omega arith))
      (λ (e : i ≡ s). rw e (I.between_second j (omega arith) (omega arith) ∙ sym (at_upper M t j (omega arith))))
      (λ not_t not-s. I.other i j no-t no-s (omega arith) ∙ sym (at_lower M i j low)))

-- ---- a pivot from row s brought to its place

pub brought1_renamed : (n k s : ℕ) (M : Matrix) → k ≤ s → Renaming k n k s M (brought1 n k s M)
unfolding brought1
brought1_renamed n k s M from =
    either (Renaming k n k s M) (eqb s k) (λ e. in_place_law (eqb-true s k e))
    (λ e. let apart : k < s = omega (arith, eqb-false s k e) in by_lower (lower_renamed apart (interchanged n k s M apart)))

module _ (n k s : ℕ) (M : Matrix) (apart : k + 1 < s) where
  I : Matrix
  I = interchange n (k + 1) s M

  -- column k, of which rows k + 1 and s are exchanged
  column_renamed : (i : ℕ) → k ≤ i → exchange I (k + 1) k s k i k ≡ symmetric M (renamed (k + 1) s i) k
  column_renamed i from =
      by_name (k + 1) s (λ (x : ℕ). exchange I (k + 1) k s k i k ≡ symmetric M x k) i
      (λ e. rw e (exchange_first I (k + 1) k s k (omega arith) ∙ same s (omega arith)))
      (λ e. rw e (exchange_second I (k + 1) k s k ∙ same (k + 1) (omega arith)))
      (λ not_t not-s. exchange_skip I (k + 1) k s k i k (omega arith) (omega arith) ∙ same i from)
    where
      same : (r : ℕ) → k ≤ r → I r k ≡ symmetric M r k
      same r low = unfold I in (interchanged n (k + 1) s M apart).other r k (omega arith) (omega arith) (omega arith) ∙ sym (at_lower M r k low)

  lower_renamed2 : (i j : ℕ) → k ≤ j → j ≤ i → i < n → Dec (k < j) → exchange I (k + 1) k s k i j ≡ symmetric M (renamed (k + 1) s i) (renamed (k + 1) s j)
  unfolding I
  lower_renamed2 i j from low upto (yes lt) =
      exchange_skip I (k + 1) k s k i j (omega arith) (omega arith) ∙ lower_renamed apart (interchanged n (k + 1) s M apart) i j (omega arith) low upto
  lower_renamed2 i j from low upto (no nlt) =
      let here : j ≡ k = omega arith in
      rw (here, renamed_other (k + 1) s k (omega arith) (omega arith)) (column_renamed i (omega arith))

pub brought2_renamed : (n k s : ℕ) (M : Matrix) → k < s → Renaming k n (k + 1) s M (brought2 n k s M)
unfolding brought2 I
brought2_renamed n k s M from =
    either (Renaming k n (k + 1) s M) (eqb s (k + 1)) (λ e. in_place_law (eqb-true s (k + 1) e))
    (λ e. let apart : k + 1 < s = omega (arith, eqb-false s (k + 1) e) in by_lower (λ i j low under upto. lower_renamed2 n k s M apart i j low under upto (dec_lt k j)))
