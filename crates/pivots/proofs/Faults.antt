-- The search for the first row that breaks the rule, block by block.
--     Going           k blocks' rows passed, the answer is still the answer from k on
--     going_none, going_more     at row 0, and after one more sound block
--     going_all, going_stop      at the end, and at a block that breaks the rule
use mathlib.Core.List.{List}
use mathlib.Core.Path.{◌≡◌, refl, sym, ap, ◌∙◌}
use mathlib.Core.Logic.{⊎_elim}
use Prim.Native.Nat.{ℕ, zero, suc, ◌+◌, ◌<◌, ◌≤◌}
use native.Mathlib.Omega.{arith}
use borrow.Author.Tests.{ne_eqb, le-ltb, lt-ltb}
use Rattle.pivots.specs.Rule.{block_of, fault_from, fault_of}
use Rattle.pivots.proofs.Blocks.{one_rows, two_rows, block_found}

pub record Going (n : ℕ) (words : List ℕ) (k : ℕ) : Type 0 where
  pub fuel : ℕ
  pub enough : n ≤ k + fuel
  pub within : k ≤ n
  pub same : fault_of n words ≡ fault_from fuel n words k

-- a sound block lies within the order
pub rows_within
    : (n : ℕ) (words : List ℕ) {k rows : ℕ} → k < n → rows ≡ block_of n words k → (rows ≡ 0 → ⊥) → k + rows ≤ n
rows_within n words {k} h e found =
    ⊎_elim (λ o. omega (arith, one_rows n words k o)) (λ t. omega (arith, two_rows n words k t, t.room))
    (block_found n words k (λ z. found (e ∙ z)))

-- one block fewer to look at
pub from_next
    : (fuel n : ℕ) (words : List ℕ) (k : ℕ)
    → k < n → (block_of n words k ≡ 0 → ⊥)
    → fault_from (suc fuel) n words k ≡ fault_from fuel n words (k + block_of n words k)
unfolding fault_from
from_next fuel n words k h found = simp (lt-ltb k n h, ne_eqb (block_of n words k) 0 found)

from_end : (fuel n : ℕ) (words : List ℕ) (k : ℕ) → n ≤ k → fault_from fuel n words k ≡ n
unfolding fault_from
from_end zero n words k h = refl
from_end (suc fuel) n words k h = simp (le-ltb k n h)

pub from_stop : (fuel n : ℕ) (words : List ℕ) (k : ℕ) → k < n → block_of n words k ≡ 0 → fault_from (suc fuel) n words k ≡ k
unfolding fault_from
from_stop fuel n words k h broken = simp (lt-ltb k n h, broken)

pub going_none : (n : ℕ) (words : List ℕ) → Going n words 0
going_none n words = record { fuel = n; enough = omega arith; within = omega arith; same = refl }

more
    : (fuel n : ℕ) (words : List ℕ) (k rows : ℕ)
    → k < n → n ≤ k + fuel → fault_of n words ≡ fault_from fuel n words k → rows ≡ block_of n words k → (rows ≡ 0 → ⊥)
    → Going n words (k + rows)
more zero n words k rows h enough same e found = absurd (omega arith)
more (suc fuel) n words k rows h enough same e found =
    record {
      fuel = fuel;
      enough = omega (arith, found);
      within = rows_within n words h e found;
      same = same ∙ from_next fuel n words k h (λ z. found (e ∙ z)) ∙ ap (λ r. fault_from fuel n words (k + r)) (sym e);
    }

pub going_more
    : {n : ℕ} {words : List ℕ} {k rows : ℕ}
    → Going n words k → k < n → rows ≡ block_of n words k → (rows ≡ 0 → ⊥)
    → Going n words (k + rows)
going_more {n} {words} {k} {rows} g h e found = more g.fuel n words k rows h g.enough g.same e found

pub going_all : {n : ℕ} {words : List ℕ} {k : ℕ} → Going n words k → n ≤ k → n ≡ fault_of n words
going_all {n} {words} {k} g h = sym (g.same ∙ from_end g.fuel n words k h)

stop
    : (fuel n : ℕ) (words : List ℕ) (k : ℕ)
    → k < n → n ≤ k + fuel → fault_of n words ≡ fault_from fuel n words k → block_of n words k ≡ 0
    → k ≡ fault_of n words
stop zero n words k h enough same broken = absurd (omega arith)
stop (suc fuel) n words k h enough same broken = sym (same ∙ from_stop fuel n words k h broken)

pub going_stop
    : {n : ℕ} {words : List ℕ} {k rows : ℕ}
    → Going n words k → k < n → rows ≡ block_of n words k → rows ≡ 0
    → k ≡ fault_of n words
going_stop {n} {words} {k} g h e broken = stop g.fuel n words k h g.enough g.same (sym e ∙ broken)
