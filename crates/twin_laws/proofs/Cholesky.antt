-- Cholesky and twin rows p < q, for any rule of the diagonal. Assumes nothing.
use mathlib.Core.Path.{◌≡◌, sym, ◌∙◌, ap, subst}
use mathlib.Core.Logic.{⊎_elim}
use Prim.Native.Nat.{ℕ, zero, suc, ◌+◌, ◌≤◌, ◌<◌}
use native.Mathlib.Nat.{eq-or-lt_of_le}
use native.Mathlib.Numerals.{add-one}
use native.Mathlib.Omega.{arith}
use lib.Ieee.{Float, binary64, neg}
use Rattle.matrix.specs.Matrix.{Matrix}
use Rattle.matrix.specs.Loop.{for}
use Rattle.matrix.specs.Rounded.{◌⊕◌, ◌⊗◌, ◌⊘◌}
use Rattle.matrix.proofs.Loops.{for_more, for_same}
use Rattle.cholesky.specs.Column.{less, updated}
use Rattle.cholesky.specs.Run.{Rule, factor_columns}
use Rattle.cholesky.proofs.Onward.{accepted_before}
use Rattle.cholesky.proofs.Entries.{After, Accepted, Updated, answer_of, diagonal_of, below_of, left_of_law, right_of}
use Rattle.matrix.proofs.Products.{neg_exchanges}

-- ---- updates of two rows

-- entry (i, j) of A, less what the first k columns of L take from it: a(i,j) + (−l(j,t))·l(i,t), t rising
abbrev pub reduced : Matrix → Matrix → ℕ → ℕ → ℕ → Float
reduced A L i j k = for 0 k (less L i j) (A i j)

-- equal starts and equal terms
pub reduced_same : (A M B N : Matrix) (i j r c k : ℕ) → A i j ≡ B r c → ((t : ℕ) → t < k → neg (M j t) ⊗ M i t ≡ neg (N c t) ⊗ N r t)
    → reduced A M i j k ≡ reduced B N r c k
unfolding less
reduced_same A M B N i j r c k start terms =
    for_same 0 k (less M i j) (less N r c) (A i j) (λ t x from below. ap (◌⊕◌ x) (terms t below)) ∙ ap (for 0 k (less N r c)) start

-- the same where the start stands in the matrix itself
chain : (M N : Matrix) (i j r c k : ℕ) → M i j ≡ N r c → ((t : ℕ) → t < k → neg (M j t) ⊗ M i t ≡ neg (N c t) ⊗ N r t) → updated M j k i ≡ updated N c k r
unfolding updated
chain M N i j r c k start terms = reduced_same M M N N i j r c k start terms

-- what column p leaves of x in row q, if v is the first twin's updated diagonal: x + (−(x / root v))·(v / root v)
unfoldable pub remainder : Rule → Float → Float → Float
remainder ρ v x = x ⊕ neg (x ⊘ ρ.root v) ⊗ (v ⊘ ρ.root v)

module _ (ρ : Rule) (A : Matrix) (p q : ℕ) (apart : p < q) (left : (k : ℕ) → k ≤ p → A q k ≡ A p k) (diagonal : A q q ≡ A p p) where
  Alike : ℕ → Type 0
  Alike j = (k : ℕ) → k < j → After ρ A j q k ≡ After ρ A j p k

  -- one more column
  alike_more : (j : ℕ) → j < p → Accepted ρ A (j + 1) → Alike j → Alike (j + 1)
  unfolding Alike
  alike_more j before done alike k lt =
      ⊎_elim
      (λ (here : k ≡ j). subst (λ (k : ℕ). After ρ A (j + 1) q k ≡ After ρ A (j + 1) p k) (sym here) at_j)
      (λ (earlier : k < j). left_of_law ρ A j q k earlier ∙ alike k earlier ∙ sym (left_of_law ρ A j p k earlier))
      (eq-or-lt_of_le (omega arith))
    where
      at_j : After ρ A (j + 1) q j ≡ After ρ A (j + 1) p j
      at_j =
          below_of ρ A j q done (omega arith)
          ∙ ap (λ (x : Float). x ⊘ ρ.root (Updated ρ A j j))
          (chain (After ρ A j) (After ρ A j) q j p j j
          (right_of ρ A j q j (omega arith) ∙ left j (omega arith) ∙ sym (right_of ρ A j p j (omega arith)))
          (λ t below. ap (◌⊗◌ (neg (After ρ A j j t))) (alike t below)))
          ∙ sym (below_of ρ A j p done (omega arith))

  alike_upto : (j : ℕ) → j ≤ p → Accepted ρ A j → Alike j
  unfolding Alike
  alike_upto zero h done = λ k lt. absurd (omega arith)
  alike_upto (suc j) h done =
      let next : j + 1 ≡ suc j = add-one j in
      let done' : Accepted ρ A (j + 1) = subst (Accepted ρ A) (sym next) done in
      subst Alike next (alike_more j (omega arith) done' (alike_upto j (omega arith) (accepted_before ρ 0 A j (j + 1) (omega arith) done')))

  module _ (done : Accepted ρ A (p + 1)) where
    -- the updated diagonal at p
    abbrev pub v : Float
    v = Updated ρ A p p

    alike : Alike p
    alike = alike_upto p (omega arith) (accepted_before ρ 0 A p (p + 1) (omega arith) done)

    -- l(q,k) = l(p,k) for k < p
    pub twin_left : (k : ℕ) → k < p → After ρ A (p + 1) q k ≡ After ρ A (p + 1) p k
    unfolding Alike
    twin_left k lt = left_of_law ρ A p q k lt ∙ alike k lt ∙ sym (left_of_law ρ A p p k lt)

    -- row q of column p is updated to v too
    twin_updated : Updated ρ A p q ≡ v
    unfolding Alike
    twin_updated =
        chain (After ρ A p) (After ρ A p) q p p p p
        (right_of ρ A p q p (omega arith) ∙ left p (omega arith) ∙ sym (right_of ρ A p p p (omega arith)))
        (λ t below. ap (◌⊗◌ (neg (After ρ A p p t))) (alike t below))

    -- l(p,p) = root v, l(q,p) = v / root v
    pub twin_diagonal : After ρ A (p + 1) p p ≡ ρ.root v
    twin_diagonal = diagonal_of ρ A p done

    pub twin_beside : After ρ A (p + 1) q p ≡ v ⊘ ρ.root v
    twin_beside = below_of ρ A p q done apart ∙ ap (λ (x : Float). x ⊘ ρ.root v) twin_updated

    -- one column more of a chain
    chain_more : (M : Matrix) (j k i : ℕ) → updated M j (k + 1) i ≡ updated M j k i ⊕ neg (M j k) ⊗ M i k
    unfolding updated less
    chain_more M j k i = for_more 0 k (less M i j) (M i j) (omega arith)

    -- the diagonal at q after the columns up to p
    pub twin_rest : updated (After ρ A (p + 1)) q (p + 1) q ≡ remainder ρ v v
    unfolding Alike remainder
    twin_rest =
        chain_more (After ρ A (p + 1)) q p q
        ∙ ap (λ (x : Float). x ⊕ neg (After ρ A (p + 1) q p) ⊗ After ρ A (p + 1) q p)
        (chain (After ρ A (p + 1)) (After ρ A p) q q p p p
        (right_of ρ A (p + 1) q q (omega arith) ∙ diagonal ∙ sym (right_of ρ A p p p (omega arith)))
        (λ t below. ap (λ (x : Float). neg x ⊗ x) (left_of_law ρ A p q t below ∙ alike t below)))
        ∙ ap (λ (x : Float). v ⊕ neg x ⊗ x) twin_beside

    -- adjacent twins: row q's updated diagonal, and so whether it is refused and by which test, depends on v alone
    pub twin_next : q ≡ p + 1 → Updated ρ A q q ≡ remainder ρ v v
    twin_next next = subst (λ (k : ℕ). updated (After ρ A k) q k q ≡ remainder ρ v v) (sym next) twin_rest

    pub twin_refused : q ≡ p + 1 → (factor_columns ρ 0 (q + 1) A).answer ≡ ρ.verdict (remainder ρ v v) q
    twin_refused next =
        answer_of ρ A q (subst (Accepted ρ A) (sym next) done) ∙ ap (λ (x : Float). ρ.verdict x q) (twin_next next)

    -- what row q of column k, p < k < q, holds after the columns up to p, from row k of the updated column p
    pub twin_between_law : (k : ℕ) → p < k → k < q → A q k ≡ A k p → updated (After ρ A (p + 1)) k (p + 1) q ≡ remainder ρ v (Updated ρ A p k)
    unfolding Alike remainder
    twin_between_law k after before mirrored =
        chain_more (After ρ A (p + 1)) k p q
        ∙ ap (λ (x : Float). x ⊕ neg (After ρ A (p + 1) k p) ⊗ After ρ A (p + 1) q p)
        (chain (After ρ A (p + 1)) (After ρ A p) q k k p p
        (right_of ρ A (p + 1) q k (omega arith) ∙ mirrored ∙ sym (right_of ρ A p k p (omega arith)))
        (λ t below.
        ap (λ (x : Float). neg x ⊗ After ρ A (p + 1) q t) (left_of_law ρ A p k t below)
        ∙ ap (◌⊗◌ (neg (After ρ A p k t))) (left_of_law ρ A p q t below ∙ alike t below)
        ∙ neg_exchanges binary64 (After ρ A p k t) (After ρ A p p t)))
        ∙ ap (λ (x : Float). Updated ρ A p k ⊕ neg x ⊗ After ρ A (p + 1) q p) (below_of ρ A p k done after)
        ∙ ap (λ (x : Float). Updated ρ A p k ⊕ neg (Updated ρ A p k ⊘ ρ.root v) ⊗ x) twin_beside
