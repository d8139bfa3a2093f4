-- What is found in a record, read back: a number of rows, the first fault.
use Rattle.std.specs.Prelude.{◌≡◌, ◌<◌, ◌≤◌, List, ℕ, Bool, true, false, cond, eqb, ltb, Option, None, Some}
use native.Mathlib.Omega.{arith}
use mathlib.Core.Path.{refl, sym, ◌∙◌}
use borrow.Author.Tests.{eqb-true, eqb-false, ltb-true, ltb-false, lt-ltb, le-ltb}
use Rattle.pivots.specs.Rule.{block_of, fault_of}
use Rattle.pivots.specs.inner.Found.{rows_found, fault_found}

-- ---- the rows of a block

module _ (n : ℕ) (words : List ℕ) (k : ℕ) where
  pub some_rows : {rows : ℕ} → Some rows ≡ rows_found n words k → (rows ≡ block_of n words k) × (rows ≡ 0 → ⊥)
  some_rows {rows} is = by (eqb (block_of n words k) 0) refl is
    where
      by : (zero : Bool) → eqb (block_of n words k) 0 ≡ zero → Some rows ≡ cond zero None (Some (block_of n words k)) → (rows ≡ block_of n words k) × (rows ≡ 0 → ⊥)
      by true e is = absurd (grind (arith, is))
      by false e is = let same : rows ≡ block_of n words k = cc in (same, λ none. eqb-false (block_of n words k) 0 e (sym same ∙ none))

  pub without_rows : {found : Option ℕ} → found ≡ rows_found n words k → ((rows : ℕ) → found ≡ Some rows → ⊥) → block_of n words k ≡ 0
  without_rows {found} is none = by (eqb (block_of n words k) 0) refl is
    where
      by : (zero : Bool) → eqb (block_of n words k) 0 ≡ zero → found ≡ cond zero None (Some (block_of n words k)) → block_of n words k ≡ 0
      by true e is = eqb-true (block_of n words k) 0 e
      by false e is = absurd (none (block_of n words k) is)

-- ---- the first fault

module _ (n : ℕ) (words : List ℕ) where
  pub finds_fault : {k : ℕ} → k ≡ fault_of n words → k < n → Some k ≡ fault_found n words
  finds_fault e below = rw (← e, lt-ltb _ n below) refl

  pub finds_none : n ≡ fault_of n words → None ≡ fault_found n words
  finds_none e = rw (← e, le-ltb n n (omega arith)) refl

  pub some_fault : {row : ℕ} → Some row ≡ fault_found n words → (row ≡ fault_of n words) × (row < n)
  some_fault {row} is = by (ltb (fault_of n words) n) refl is
    where
      by : (below : Bool) → ltb (fault_of n words) n ≡ below → Some row ≡ cond below (Some (fault_of n words)) None → (row ≡ fault_of n words) × (row < n)
      by true e is = let same : row ≡ fault_of n words = cc in (same, rw same (ltb-true (fault_of n words) n e))
      by false e is = absurd (grind (arith, is))

  pub without_fault : {found : Option ℕ} → found ≡ fault_found n words → ((row : ℕ) → found ≡ Some row → ⊥) → n ≤ fault_of n words
  without_fault {found} is none = by (ltb (fault_of n words) n) refl is
    where
      by : (below : Bool) → ltb (fault_of n words) n ≡ below → found ≡ cond below (Some (fault_of n words)) None → n ≤ fault_of n words
      by true e is = absurd (none (fault_of n words) is)
      by false e is = ltb-false (fault_of n words) n e
