-- LBLT and twin rows p < q. Assumes nothing.
use mathlib.Core.Path.{◌≡◌, refl, sym, ◌∙◌, ap, ap₂, subst}
use mathlib.Core.Bool.{Bool, cond}
use mathlib.Core.Logic.{⊎_elim}
use Prim.Native.Nat.{ℕ, ◌+◌, ◌≤◌, ◌<◌}
use native.Mathlib.Decide.{dec_lt}
use native.Mathlib.Nat.{eq-or-lt_of_le}
use native.Mathlib.Omega.{arith}
use lib.Ieee.{Float, neg}
use borrow.Author.Tests.{eq-eqb}
use Rattle.matrix.specs.Matrix.{Matrix, entry}
use Rattle.matrix.specs.Loop.{for}
use Rattle.matrix.specs.Rounded.{◌⊕◌, ◌⊖◌, ◌⊗◌, ◌⊘◌, one}
use Rattle.lblt_pivot.specs.declared.rank2.Block.{Block}
use Rattle.lblt_pivot.specs.Interchange.{interchange, brought1, brought2}
use Rattle.lblt_pivot.specs.Pivot.{pivot1, pivot2}
use Rattle.lblt_pivot.specs.Update.{update1, block_at, work1, work2, rank2_at, rank2_by, rank2, update2}
use Rattle.matrix.proofs.Loops.{for_still, for_at}
use Rattle.matrix.proofs.Stores.{entry_here, entry_skip, entry_column, column_other, row_other, row_here}
use Rattle.lblt_pivot.proofs.Entries.{Updated1, updated1}
use Rattle.lblt.proofs.Earlier.{pivot1_earlier, pivot2_earlier}
use Rattle.twins.specs.Twins.{symmetric}
use Rattle.twins.proofs.Clauses.{at_lower, at_upper}
use Rattle.twin_laws.proofs.Interchanges.{flip, renamed, renamed_first, renamed_other, by_name, Renaming, brought1_renamed, brought2_renamed}

-- rows p and q are the same up to p, on the diagonal and below q; for q = p + 1 that is all of both rows
pub record Paired (n : ℕ) (M : Matrix) (p q : ℕ) : Type 0 where
  pub left : (k : ℕ) → k ≤ p → M q k ≡ M p k
  pub diagonal : M q q ≡ M p p
  pub below : (r : ℕ) → q < r → r < n → M r q ≡ M r p

-- ---- rows of the symmetric matrix

-- rows p and q agree in column c
abbrev pub Alike : Matrix → ℕ → ℕ → ℕ → Type 0
Alike M p q c = symmetric M q c ≡ symmetric M p c

-- column c is not between rows p and q
pub data Outside (p q c : ℕ) : Type 0 where
  left : c ≤ p → c ≤ q → Outside p q c
  right : p ≤ c → q ≤ c → Outside p q c

module _ (M : Matrix) (p q c : ℕ) where
  left_is : c ≤ p → c ≤ q → Alike M p q c → M q c ≡ M p c
  left_is h h' alike = sym (at_lower M q c h') ∙ alike ∙ at_lower M p c h

  is_left : c ≤ p → c ≤ q → M q c ≡ M p c → Alike M p q c
  is_left h h' same = at_lower M q c h' ∙ same ∙ sym (at_lower M p c h)

  right_is : p ≤ c → q ≤ c → Alike M p q c → M c q ≡ M c p
  right_is h h' alike = sym (at_lower M c q h') ∙ flip M c q ∙ alike ∙ flip M p c ∙ at_lower M c p h

  is_right : p ≤ c → q ≤ c → M c q ≡ M c p → Alike M p q c
  is_right h h' same = flip M q c ∙ at_lower M c q h' ∙ same ∙ sym (at_lower M c p h) ∙ flip M c p

-- ---- a pivot of size 1 in its place

pub in_place1 : (n k : ℕ) (M : Matrix) → pivot1 n k k M ≡ update1 n k M
unfolding pivot1 brought1
in_place1 n k M = ap (λ (b : Bool). update1 n k (cond b M (interchange n k k M))) (eq-eqb k k refl)

-- the entry that a pivot of size 1 leaves at (i, j): a + (b·(−1/v))·c
unfoldable pub trail : Float → Float → Float → Float → Float
trail v a b c = a ⊕ b ⊗ neg (one ⊘ v) ⊗ c

-- rows that agree in the pivot's column and in column c
alike_updated1 : (n k p q c : ℕ) (M : Matrix) → k < p → k < q → p < n → q < n → k ≤ c → c < n → Outside p q c → Alike M p q k → Alike M p q c → Alike (update1 n k M) p q c
alike_updated1 n k p q c M after after' within within' from upto outside pivot here = ⊎_elim at_k (λ lt. trailing lt outside) (eq-or-lt_of_le from)
  where
    U : Updated1 n k M (update1 n k M)
    U = updated1 n k M

    column : M q k ≡ M p k
    column = left_is M p q k (omega arith) (omega arith) pivot

    at_k : k ≡ c → Alike (update1 n k M) p q c
    at_k e =
        subst (Alike (update1 n k M) p q) e
        (is_left (update1 n k M) p q k (omega arith) (omega arith)
        (U.column q after' within' ∙ ap (λ (x : Float). x ⊗ (one ⊘ M k k)) column ∙ sym (U.column p after within)))

    trailing : k < c → Outside p q c → Alike (update1 n k M) p q c
    trailing lt (left h h') =
        is_left (update1 n k M) p q c h h'
        (U.trailing q c lt h' within'
        ∙ ap₂ (λ (x y : Float). x ⊕ y ⊗ neg (one ⊘ M k k) ⊗ M c k) (left_is M p q c h h' here) column
        ∙ sym (U.trailing p c lt h within))
    trailing lt (right h h') =
        is_right (update1 n k M) p q c h h'
        (U.trailing c q after' h' upto
        ∙ ap₂ (λ (x y : Float). x ⊕ M c k ⊗ neg (one ⊘ M k k) ⊗ y) (right_is M p q c h h' here) column
        ∙ sym (U.trailing c p after h upto))

-- ---- the pair's first row is a pivot of size 1 in its place

module _ (n p q : ℕ) (M : Matrix) (apart : p < q) (within : q < n) (pair : Paired n M p q) where
  -- the second's diagonal, from the common diagonal v
  pub twin_diagonal : pivot1 n p p M q q ≡ trail (M p p) (M p p) (M p p) (M p p)
  unfolding trail
  twin_diagonal =
      ap (λ (N : Matrix). N q q) (in_place1 n p M)
      ∙ (updated1 n p M).trailing q q apart (omega arith) within
      ∙ ap (λ (x : Float). x ⊕ M q p ⊗ neg (one ⊘ M p p) ⊗ M q p) pair.diagonal
      ∙ ap (λ (x : Float). M p p ⊕ x ⊗ neg (one ⊘ M p p) ⊗ x) (pair.left p (omega arith))

  -- the entries below it, from x = a(r,p)
  pub twin_below : (r : ℕ) → q < r → r < n → pivot1 n p p M r q ≡ trail (M p p) (M r p) (M r p) (M p p)
  unfolding trail
  twin_below r h h' =
      ap (λ (N : Matrix). N r q) (in_place1 n p M)
      ∙ (updated1 n p M).trailing r q apart (omega arith) h'
      ∙ ap (λ (x : Float). x ⊕ M r p ⊗ neg (one ⊘ M p p) ⊗ M q p) (pair.below r h h')
      ∙ ap (λ (x : Float). M r p ⊕ M r p ⊗ neg (one ⊘ M p p) ⊗ x) (pair.left p (omega arith))

-- ---- a pivot of size 2 in its place, entry by entry

-- w1 and w2 of row j
first : Matrix → ℕ → ℕ → Float
first M k j = work1 (block_at M k) (M j k) (M j (k + 1))

second : Matrix → ℕ → ℕ → Float
second M k j = work2 (block_at M k) (M j k) (M j (k + 1))

record Updated2 (n k : ℕ) (M N : Matrix) : Type 0 where
  trailing : (i j : ℕ) → k + 1 < j → j ≤ i → i < n → N i j ≡ M i j ⊖ M i k ⊗ first M k j ⊖ M i (k + 1) ⊗ second M k j
  column : (j : ℕ) → k + 1 < j → j < n → N j k ≡ first M k j
  next : (j : ℕ) → k + 1 < j → j < n → N j (k + 1) ≡ second M k j

module _ (n k : ℕ) (b : Block) where
  abbrev new : ℕ → Float → Float → ℕ → Matrix → Float
  new j w1 w2 i M = M i j ⊖ M i k ⊗ w1 ⊖ M i (k + 1) ⊗ w2

  abbrev w1 : ℕ → Matrix → Float
  w1 j M = work1 b (M j k) (M j (k + 1))

  abbrev w2 : ℕ → Matrix → Float
  w2 j M = work2 b (M j k) (M j (k + 1))

  -- column j updated down to row r
  abbrev down : ℕ → ℕ → Matrix → Matrix
  down j r M = for j r (rank2_at k j (w1 j M) (w2 j M)) M

  -- column j, row j of columns k and k + 1, and nothing else
  other : (j : ℕ) (M : Matrix) (r c : ℕ) → (c ≡ j → ⊥) → (c ≡ k → r ≡ j → ⊥) → (c ≡ k + 1 → r ≡ j → ⊥) → rank2 n k b j M r c ≡ M r c
  unfolding rank2 rank2_by rank2_at
  other j M r c column first second =
      entry_skip (entry (down j n M) j k (w1 j M)) j (k + 1) (w2 j M) r c (λ e f. second f e)
      ∙ entry_skip (down j n M) j k (w1 j M) r c (λ e f. first f e)
      ∙ column_other j (new j (w1 j M) (w2 j M)) j n M r c column

  here : (j : ℕ) (M : Matrix) (r : ℕ) → k + 1 < j → j ≤ r → r < n → rank2 n k b j M r j ≡ new j (w1 j M) (w2 j M) r M
  unfolding rank2 rank2_by rank2_at
  here j M r after from upto =
      let value = new j (w1 j M) (w2 j M) in
      let Y = down j r M in
      entry_column (entry (down j n M) j k (w1 j M)) j (k + 1) (w2 j M) r j (omega arith)
      ∙ entry_column (down j n M) j k (w1 j M) r j (omega arith)
      ∙ row_here j value j n M r from upto
      ∙ ap (λ (x : Float). x ⊖ Y r k ⊗ w1 j M ⊖ Y r (k + 1) ⊗ w2 j M) (row_other j value j r M r j (omega arith))
      ∙ ap (λ (x : Float). M r j ⊖ x ⊗ w1 j M ⊖ Y r (k + 1) ⊗ w2 j M) (column_other j value j r M r k (omega arith))
      ∙ ap (λ (x : Float). M r j ⊖ M r k ⊗ w1 j M ⊖ x ⊗ w2 j M) (column_other j value j r M r (k + 1) (omega arith))

  row_first : (j : ℕ) (M : Matrix) → rank2 n k b j M j k ≡ w1 j M
  unfolding rank2 rank2_by
  row_first j M = entry_column (entry (down j n M) j k (w1 j M)) j (k + 1) (w2 j M) j k (omega arith) ∙ entry_here (down j n M) j k (w1 j M)

  row_second : (j : ℕ) (M : Matrix) → rank2 n k b j M j (k + 1) ≡ w2 j M
  unfolding rank2 rank2_by
  row_second j M = entry_here (entry (down j n M) j k (w1 j M)) j (k + 1) (w2 j M)

  -- columns lo to hi
  others : (lo hi : ℕ) (M : Matrix) (r c : ℕ) → ((j : ℕ) → lo ≤ j → j < hi → (c ≡ j → ⊥) × ((c ≡ k → r ≡ j → ⊥) × (c ≡ k + 1 → r ≡ j → ⊥))) → for lo hi (rank2 n k b) M r c ≡ M r c
  others lo hi M r c apart =
      for_still (λ (N : Matrix). N r c) lo hi (rank2 n k b) M
      (λ j N from upto. other j N r c (apart j from upto).0 (apart j from upto).1.0 (apart j from upto).1.1)

updated2 : (n k : ℕ) (M : Matrix) → Updated2 n k M (update2 n k M)
unfolding update2 first second
updated2 n k M = record {
  trailing = λ i j after from upto.
      ap (λ (N : Matrix). N i j) (for_at (k + 2) n j (rank2 n k b) M (omega arith) (omega arith))
      ∙ others n k b (j + 1) n (rank2 n k b j (X j)) i j (omega arith)
      ∙ here n k b j (X j) i after from upto
      ∙ ap (λ (x : Float). x ⊖ X j i k ⊗ w1 n k b j (X j) ⊖ X j i (k + 1) ⊗ w2 n k b j (X j)) (others n k b (k + 2) j M i j (omega arith))
      ∙ ap₂ (λ (x y : Float). M i j ⊖ x ⊗ w1 n k b j (X j) ⊖ y ⊗ w2 n k b j (X j)) (still j i k from (omega arith)) (still j i (k + 1) from (omega arith))
      ∙ ap₂ (λ (x y : Float). M i j ⊖ M i k ⊗ work1 b x y ⊖ M i (k + 1) ⊗ work2 b x y) (still j j k (omega arith) (omega arith)) (still j j (k + 1) (omega arith) (omega arith));
  column = λ j after upto.
      ap (λ (N : Matrix). N j k) (for_at (k + 2) n j (rank2 n k b) M (omega arith) upto)
      ∙ others n k b (j + 1) n (rank2 n k b j (X j)) j k (omega arith)
      ∙ row_first n k b j (X j)
      ∙ ap₂ (work1 b) (still j j k (omega arith) (omega arith)) (still j j (k + 1) (omega arith) (omega arith));
  next = λ j after upto.
      ap (λ (N : Matrix). N j (k + 1)) (for_at (k + 2) n j (rank2 n k b) M (omega arith) upto)
      ∙ others n k b (j + 1) n (rank2 n k b j (X j)) j (k + 1) (omega arith)
      ∙ row_second n k b j (X j)
      ∙ ap₂ (work2 b) (still j j k (omega arith) (omega arith)) (still j j (k + 1) (omega arith) (omega arith));
}
  where
    b : Block
    b = block_at M k

    -- before column j is reached, its row and those below are as they were
    X : ℕ → Matrix
    X j = for (k + 2) j (rank2 n k b) M

    still : (j r c : ℕ) → j ≤ r → c < k + 2 → X j r c ≡ M r c
    still j r c from early = others n k b (k + 2) j M r c (omega arith)

-- rows that agree in the pivots' columns and in column c
alike_updated2 : (n k p q c : ℕ) (M : Matrix) → k + 1 < p → k + 1 < q → p < n → q < n → k ≤ c → c < n → Outside p q c
    → Alike M p q k → Alike M p q (k + 1) → Alike M p q c → Alike (update2 n k M) p q c
unfolding first second
alike_updated2 n k p q c M after after' within within' from upto outside pivot pivot' here =
    ⊎_elim at_k (λ (lt : k < c). ⊎_elim at_next (λ lt. trailing lt outside) (eq-or-lt_of_le (omega arith))) (eq-or-lt_of_le from)
  where
    U : Updated2 n k M (update2 n k M)
    U = updated2 n k M

    column : M q k ≡ M p k
    column = left_is M p q k (omega arith) (omega arith) pivot

    next : M q (k + 1) ≡ M p (k + 1)
    next = left_is M p q (k + 1) (omega arith) (omega arith) pivot'

    first_same : first M k q ≡ first M k p
    first_same = ap₂ (work1 (block_at M k)) column next

    second_same : second M k q ≡ second M k p
    second_same = ap₂ (work2 (block_at M k)) column next

    at_k : k ≡ c → Alike (update2 n k M) p q c
    at_k e =
        subst (Alike (update2 n k M) p q) e
        (is_left (update2 n k M) p q k (omega arith) (omega arith) (U.column q after' within' ∙ first_same ∙ sym (U.column p after within)))

    at_next : k + 1 ≡ c → Alike (update2 n k M) p q c
    at_next e =
        subst (Alike (update2 n k M) p q) e
        (is_left (update2 n k M) p q (k + 1) (omega arith) (omega arith) (U.next q after' within' ∙ second_same ∙ sym (U.next p after within)))

    trailing : k + 1 < c → Outside p q c → Alike (update2 n k M) p q c
    trailing lt (left h h') =
        is_left (update2 n k M) p q c h h'
        (U.trailing q c lt h' within'
        ∙ ap₂ (λ (x y : Float). x ⊖ y ⊗ first M k c ⊖ M q (k + 1) ⊗ second M k c) (left_is M p q c h h' here) column
        ∙ ap (λ (x : Float). M p c ⊖ M p k ⊗ first M k c ⊖ x ⊗ second M k c) next
        ∙ sym (U.trailing p c lt h within))
    trailing lt (right h h') =
        is_right (update2 n k M) p q c h h'
        (U.trailing c q after' h' upto
        ∙ ap₂ (λ (x y : Float). x ⊖ M c k ⊗ y ⊖ M c (k + 1) ⊗ second M k q) (right_is M p q c h h' here) first_same
        ∙ ap (λ (x : Float). M c p ⊖ M c k ⊗ first M k p ⊖ M c (k + 1) ⊗ x) second_same
        ∙ sym (U.trailing c p after h upto))

-- ---- a pivot brought from row s

-- rows p and q of N stood at p and q renamed
brought : {k n t s : ℕ} {M N : Matrix} → Renaming k n t s M N → (p q c : ℕ) → k ≤ p → p < n → k ≤ q → q < n → k ≤ c → c < n
    → Alike M (renamed t s p) (renamed t s q) (renamed t s c) → Alike N p q c
brought R p q c a b a' b' a'' b'' alike = R.at q c a' b' a'' b'' ∙ alike ∙ sym (R.at p c a b a'' b'')

-- Rows p and q behind the pivot, wherever they stood before it, agree in column c, from k on and not between them,
-- if they agreed in the pivot's column, or its two, and in the column that became c.
module _ (n k s p q c : ℕ) (M : Matrix) (within : p < n) (within' : q < n) (from : k ≤ c) (upto : c < n) (outside : Outside p q c) where
  pub alike_kept1 : k ≤ s → k < p → k < q
      → Alike M (renamed k s p) (renamed k s q) s
      → Alike M (renamed k s p) (renamed k s q) (renamed k s c)
      → Alike (pivot1 n k s M) p q c
  unfolding pivot1
  alike_kept1 target after after' pivot here =
      let R = brought1_renamed n k s M target in
      alike_updated1 n k p q c (brought1 n k s M) after after' within within' from upto outside
      (brought R p q k (omega arith) within (omega arith) within' (omega arith) (omega arith) (rw (renamed_first k s) pivot))
      (brought R p q c (omega arith) within (omega arith) within' from upto here)

  pub alike_kept2 : k < s → k + 1 < p → k + 1 < q
      → Alike M (renamed (k + 1) s p) (renamed (k + 1) s q) k
      → Alike M (renamed (k + 1) s p) (renamed (k + 1) s q) s
      → Alike M (renamed (k + 1) s p) (renamed (k + 1) s q) (renamed (k + 1) s c)
      → Alike (pivot2 n k s M) p q c
  unfolding pivot2
  alike_kept2 target after after' pivot pivot' here =
      let R = brought2_renamed n k s M target in
      alike_updated2 n k p q c (brought2 n k s M) after after' within within' from upto outside
      (brought R p q k (omega arith) within (omega arith) within' (omega arith) (omega arith) (rw (renamed_other (k + 1) s k (omega arith) (omega arith)) pivot))
      (brought R p q (k + 1) (omega arith) within (omega arith) within' (omega arith) (omega arith) (rw (renamed_first (k + 1) s) pivot'))
      (brought R p q c (omega arith) within (omega arith) within' from upto here)

-- ---- a pair that stays where it is

paired_of : (n p q : ℕ) (M : Matrix) → p < q → q < n → ((c : ℕ) → c < n → Outside p q c → Alike M p q c) → Paired n M p q
paired_of n p q M apart within alike = record {
  left = λ c h. left_is M p q c h (omega arith) (alike c (omega arith) (left h (omega arith)));
  diagonal =
      right_is M p q q (omega arith) (omega arith) (alike q within (right (omega arith) (omega arith)))
      ∙ left_is M p q p (omega arith) (omega arith) (alike p (omega arith) (left (omega arith) (omega arith)));
  below = λ r h h'. right_is M p q r (omega arith) (omega arith) (alike r h' (right (omega arith) (omega arith)));
}

module _ (n p q : ℕ) (M : Matrix) (apart : p < q) (within : q < n) (pair : Paired n M p q) where
  alike_of : (c : ℕ) → c < n → Outside p q c → Alike M p q c
  alike_of c upto (left h h') = is_left M p q c h h' (pair.left c h)
  alike_of c upto (right h h') =
      is_right M p q c h h'
      (⊎_elim
      (λ (e : q ≡ c). subst (λ (c : ℕ). M c q ≡ M c p) e (pair.diagonal ∙ sym (pair.left p (omega arith))))
      (λ (lt : q < c). pair.below c lt upto)
      (eq-or-lt_of_le h'))

  -- the columns before k are as they were
  paired_from : (k : ℕ) (N : Matrix) → k ≤ p → ((i c : ℕ) → c < k → N i c ≡ M i c) → ((c : ℕ) → k ≤ c → c < n → Outside p q c → Alike N p q c) → Paired n N p q
  paired_from k N above earlier later = paired_of n p q N apart within (λ c upto outside. at c upto outside (dec_lt c k))
    where
      at : (c : ℕ) → c < n → Outside p q c → Dec (c < k) → Alike N p q c
      at c upto outside (yes lt) = is_left N p q c (omega arith) (omega arith) (earlier q c lt ∙ pair.left c (omega arith) ∙ sym (earlier p c lt))
      at c upto outside (no nlt) = later c (omega arith) upto outside

  -- A pivot from row s, neither twin, keeps the pair, bit for bit. Where s stands between the twins, they have to agree in its column.
  module _ (k s : ℕ) (inside : s < n) (not_first : s ≡ p → ⊥) (not-second : s ≡ q → ⊥) (between : p < s → s < q → M q s ≡ M s p) where
    pivot_alike : Alike M p q s
    pivot_alike = pick (dec_lt s p) (dec_lt s q)
      where
        pick : Dec (s < p) → Dec (s < q) → Alike M p q s
        pick (yes lt) d = alike_of s inside (left (omega arith) (omega arith))
        pick (no nlt) (yes lt) = at_lower M q s (omega arith) ∙ between (omega arith) lt ∙ sym (at_upper M p s (omega arith))
        pick (no nlt) (no nlt') = alike_of s inside (right (omega arith) (omega arith))

    -- rows p and q are not renamed
    unmoved : (t c : ℕ) → t < p → Alike M p q c → Alike M (renamed t s p) (renamed t s q) c
    unmoved t c above alike = rw (renamed_other t s p (omega arith) (omega arith), renamed_other t s q (omega arith) (omega arith)) alike

    unmoved_at : (t c : ℕ) → t < p → c < n → Outside p q c → Alike M (renamed t s p) (renamed t s q) (renamed t s c)
    unmoved_at t c above upto outside =
        unmoved t (renamed t s c) above
        (by_name t s (Alike M p q) c (λ e. pivot_alike) (λ e. alike_of t (omega arith) (left (omega arith) (omega arith))) (λ not_t not-s. alike_of c upto outside))

    pub pair_kept1 : k ≤ s → k < p → Paired n (pivot1 n k s M) p q
    pair_kept1 target above =
        paired_from k (pivot1 n k s M) (omega arith) (λ i c before. pivot1_earlier n i c k s M before target)
        (λ c from upto outside.
        alike_kept1 n k s p q c M (omega arith) within from upto outside target above (omega arith) (unmoved k s above pivot_alike) (unmoved_at k c above upto outside))

    pub pair_kept2 : k < s → k + 1 < p → Paired n (pivot2 n k s M) p q
    pair_kept2 target above =
        let early : Alike M p q k = alike_of k (omega arith) (left (omega arith) (omega arith)) in
        paired_from k (pivot2 n k s M) (omega arith) (λ i c before. pivot2_earlier n i c k s M before target)
        (λ c from upto outside.
        alike_kept2 n k s p q c M (omega arith) within from upto outside target above (omega arith) (unmoved (k + 1) k above early) (unmoved (k + 1) s above pivot_alike)
        (unmoved_at (k + 1) c above upto outside))
