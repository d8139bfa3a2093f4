-- The search for the first pair. Assumes nothing.
use Rattle.std.proofs.Common.{◌≡◌, ℕ, ◌+◌, ◌<◌, ◌≤◌, List, Some, None, sym, refl, subst, ⊎_elim, eq-or-lt_of_le, arith}
use Rattle.matrix.specs.Matrix.{Matrix}
use Rattle.twins.specs.Twins.{Twins}
use Rattle.twins.specs.inner.Fingerprints.{Fingerprinted, OthersPassed}
use Rattle.twins.specs.First.{NoneBefore, NoneBetween, First, none, pair}
use Rattle.twins.specs.inner.Search.{FirstBefore}
use Rattle.twins.proofs.Fingerprints.{fingerprints_differ}

-- no row before p is q's twin
pub record Before (n : ℕ) (M : Matrix) (q p : ℕ) : Type 0 where
  pub upto : p ≤ q
  pub nearest : NoneBefore n M p q

-- rows with other fingerprints are passed
pub before_passed : {n : ℕ} {M : Matrix} {fingerprints : List ℕ} {q p : ℕ} → Fingerprinted n M fingerprints → q < n → OthersPassed fingerprints q p → Before n M q p
before_passed {n} {M} {fingerprints} {q} {p} printed within passed =
    let upto : p ≤ q = passed.upto in
    record { upto = upto; nearest = λ r h. (fingerprints_differ printed (omega arith, within) (passed.apart.each r (omega arith) h)).no refl }

-- no row from m to before q is the twin of a row before it
pub record Between (n : ℕ) (M : Matrix) (m q : ℕ) : Type 0 where
  pub since : m ≤ q
  pub upto : q ≤ n
  pub least : NoneBetween n M m q

pub between_start : {n : ℕ} {M : Matrix} {m : ℕ} → m ≤ n → Between n M m m
between_start le = record { since = omega arith; upto = le; least = λ r s apart from h. absurd (omega arith) }

pub between_next : {n : ℕ} {M : Matrix} {m q : ℕ} → Between n M m q → q < n → NoneBefore n M q q → Between n M m (q + 1)
between_next {n} {M} {m} {q} b within none-before =
    let since : m ≤ q = b.since in
    record {
      since = omega arith;
      upto = omega arith;
      least = λ r s apart from h. ⊎_elim
          (λ (same : s ≡ q). subst (λ (k : ℕ). r < k → Twins n M r k → ⊥) (sym same) (λ lt. none-before r lt) apart)
          (λ (lt : s < q). b.least r s apart from lt)
          (eq-or-lt_of_le (omega arith));
    }

pub between_found : {n : ℕ} {M : Matrix} {m q p : ℕ} → Between n M m q → q < n → FirstBefore n M q p → First n M m (Some (record { first = p; second = q }))
between_found b within first =
    pair (record { apart = first.before; since = b.since; within = within; twins = first.twins; least = b.least; nearest = first.nearest })

pub between_all : {n : ℕ} {M : Matrix} {m q : ℕ} → Between n M m q → n ≤ q → First n M m None
between_all b past = none (λ r s apart from h. b.least r s apart from (omega arith))
