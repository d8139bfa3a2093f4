-- Reading an accepted record block by block, forwards and backwards.
--     Boundary                     a block of the record starts at row k, or k is n
--     boundary_none, boundary_all  row 0 and row n
--     is_one, is_two               the block that starts at k, by its size
--     boundary_one, boundary_two   the boundary after it
--     last_one, last_two_law           the block that ends before k, by the size at k − 1, and the boundary where it starts
--     Marks, mark_row              what a mark names
--     mark_within                  it is at most the order
use mathlib.Core.Bool.{Bool, true, false, ◌&&◌, ◌||◌}
use mathlib.Core.List.{List}
use mathlib.Core.Logic.{⊎_elim}
use mathlib.Core.Path.{◌≡◌, refl, subst}
use Prim.Native.Nat.{ℕ, zero, suc, ◌+◌, ◌-◌, ◌<◌, ◌≤◌}
use native.Mathlib.Nat.{eq-or-lt_of_le}
use native.Mathlib.Omega.{arith}
use borrow.Author.Tests.{leb-true, eqb-true}
use lib.Dec.{leb, eqb}
use Rattle.answer.specs.Answer.{Done, is_done}
use Rattle.answer.proofs.Tested.{AllHold, all_hold}
use Rattle.answer.proofs.Tests.{eq_or_ne}
use Rattle.pivots.specs.Words.{index_at, size_at, mark_at}
use Rattle.pivots.specs.Rule.{block_of, fault_from, fault_of, own_pivot, record_tests, checked, Accepted}
use Rattle.pivots.proofs.Blocks.{One, Two, one_rows, two_rows, block_found, first, second}
use Rattle.pivots.proofs.Faults.{from_next, from_stop}

-- sound blocks follow one another from row 0 up to row k
pub data Upto (n : ℕ) (words : List ℕ) : ℕ → Type 0 where
  start : {k : ℕ} → k ≡ 0 → Upto n words k
  one : {j k : ℕ} → Upto n words j → One n words j → k ≡ j + 1 → Upto n words k
  two : {j k : ℕ} → Upto n words j → Two n words j → k ≡ j + 2 → Upto n words k

-- sound blocks follow one another from row k up to row n
pub data Rest (n : ℕ) (words : List ℕ) : ℕ → Type 0 where
  end : {k : ℕ} → k ≡ n → Rest n words k
  one : {k : ℕ} → One n words k → Rest n words (k + 1) → Rest n words k
  two : {k : ℕ} → Two n words k → Rest n words (k + 2) → Rest n words k

pub record Boundary (n : ℕ) (words : List ℕ) (k : ℕ) : Type 0 where
  pub before : Upto n words k
  pub after : Rest n words k
  pub within : k ≤ n

-- ---- an accepted record

record_holds : (n : ℕ) (words : List ℕ) → is_done (checked n words) ≡ true → AllHold (record_tests n words)
unfolding checked
record_holds n words done = (all_hold (record_tests n words) Done done).0

rows_done : (n : ℕ) (words : List ℕ) → is_done (checked n words) ≡ true → n ≤ fault_of n words
rows_done n words done = leb-true n (fault_of n words) (record_holds n words done).0

rest_of : (fuel n : ℕ) (words : List ℕ) (k : ℕ) → k ≤ n → n ≤ k + fuel → n ≤ fault_from fuel n words k → Rest n words k
rest_of zero n words k within enough sound = end {k = k} (omega arith)
rest_of (suc fuel) n words k within enough sound =
    ⊎_elim (λ (e : k ≡ n). end {k = k} e)
    (λ (below : k < n).
    let found : block_of n words k ≡ 0 → ⊥ = λ broken. omega (arith, from_stop fuel n words k below broken) in
    let next : n ≤ fault_from fuel n words (k + block_of n words k) = omega (arith, from_next fuel n words k below found) in
    ⊎_elim
    (λ o. one o (rest_of fuel n words (k + 1) (omega arith) (omega arith) (rw (one_rows n words k o) at next)))
    (λ t. two t (rest_of fuel n words (k + 2) (omega (arith, t.room)) (omega arith) (rw (two_rows n words k t) at next)))
    (block_found n words k found))
    (eq-or-lt_of_le within)

pub boundary_none : {n : ℕ} {words : List ℕ} → Accepted n words → Boundary n words 0
boundary_none {n} {words} a = record {
  before = start refl;
  after = rest_of n n words 0 (omega arith) (omega arith) (rows_done n words a.done);
  within = omega arith;
}

-- ---- forwards

pub is_one : {n : ℕ} {words : List ℕ} {k : ℕ} → Boundary n words k → k < n → size_at words k ≡ 1 → One n words k
is_one {n} {words} {k} b below size = at b.after
  where
    at : Rest n words k → One n words k
    at (end e) = absurd (omega arith)
    at (one o r) = o
    at (two t r) = absurd (omega (arith, t.size))

pub is_two : {n : ℕ} {words : List ℕ} {k : ℕ} → Boundary n words k → k < n → (size_at words k ≡ 1 → ⊥) → Two n words k
is_two {n} {words} {k} b below other = at b.after
  where
    at : Rest n words k → Two n words k
    at (end e) = absurd (omega arith)
    at (one o r) = absurd (other o.size)
    at (two t r) = t

pub boundary_one : {n : ℕ} {words : List ℕ} {k : ℕ} → Boundary n words k → One n words k → Boundary n words (k + 1)
boundary_one {n} {words} {k} b o = record { before = one b.before o refl; after = at b.after; within = omega arith }
  where
    at : Rest n words k → Rest n words (k + 1)
    at (end e) = absurd (omega arith)
    at (one o r) = r
    at (two t r) = absurd (omega (arith, t.size, o.size))

pub boundary_two : {n : ℕ} {words : List ℕ} {k : ℕ} → Boundary n words k → Two n words k → Boundary n words (k + 2)
boundary_two {n} {words} {k} b t = record { before = two b.before t refl; after = at b.after; within = omega arith }
  where
    at : Rest n words k → Rest n words (k + 2)
    at (end e) = absurd (omega arith)
    at (one o r) = absurd (omega (arith, t.size, o.size))
    at (two u r) = r

climb : {n : ℕ} {words : List ℕ} (k : ℕ) → Upto n words k → Rest n words k → Upto n words n
climb {n} {words} k u (end e) = subst (Upto n words) e u
climb k u (one o r) = climb (k + 1) (one u o refl) r
climb k u (two t r) = climb (k + 2) (two u t refl) r

pub boundary_all : {n : ℕ} {words : List ℕ} → Accepted n words → Boundary n words n
boundary_all a = record { before = climb 0 (start refl) (boundary_none a).after; after = end refl; within = omega arith }

-- ---- backwards

pub record LastOne (n : ℕ) (words : List ℕ) (k : ℕ) : Type 0 where
  pub block : One n words (k - 1)
  pub boundary : Boundary n words (k - 1)

pub record LastTwo (n : ℕ) (words : List ℕ) (k : ℕ) : Type 0 where
  pub rows : 2 ≤ k
  pub block : Two n words (k - 2)
  pub boundary : Boundary n words (k - 2)

ends_one : {n : ℕ} {words : List ℕ} {j k : ℕ} → Upto n words j → One n words j → k ≡ j + 1 → Rest n words k → LastOne n words k
ends_one {n} {words} {j} {k} u o e r =
    let back : k - 1 ≡ j = omega arith in
    record {
      block = rw back o;
      boundary = rw back (record { before = u; after = one o (subst (Rest n words) e r); within = omega arith });
    }

ends_two : {n : ℕ} {words : List ℕ} {j k : ℕ} → Upto n words j → Two n words j → k ≡ j + 2 → Rest n words k → LastTwo n words k
ends_two {n} {words} {j} {k} u t e r =
    let back : k - 2 ≡ j = omega arith in
    record {
      rows = omega arith;
      block = rw back t;
      boundary = rw back (record { before = u; after = two t (subst (Rest n words) e r); within = omega arith });
    }

pub last_one : {n : ℕ} {words : List ℕ} {k : ℕ} → Boundary n words k → 0 < k → size_at words (k - 1) ≡ 1 → LastOne n words k
last_one {n} {words} {k} b positive size = at b.before
  where
    at : Upto n words k → LastOne n words k
    at (start e) = absurd (omega arith)
    at (one u o e) = ends_one u o e b.after
    at (two {j = j} u t e) =
        let second : k - 1 ≡ j + 1 = omega arith in
        absurd (omega (arith, t.size₂, rw second at size))

pub last_two_law : {n : ℕ} {words : List ℕ} {k : ℕ} → Boundary n words k → 0 < k → (size_at words (k - 1) ≡ 1 → ⊥) → LastTwo n words k
last_two_law {n} {words} {k} b positive other = at b.before
  where
    at : Upto n words k → LastTwo n words k
    at (start e) = absurd (omega arith)
    at (one {j = j} u o e) =
        let back : k - 1 ≡ j = omega arith in
        absurd (other (rw back o.size))
    at (two u t e) = ends_two u t e b.after

-- ---- the mark

-- m names a row before k, a pivot of size 1 on its own row
pub record Marks (words : List ℕ) (k m : ℕ) : Type 0 where
  pub set : 0 < m
  pub passed : m ≤ k
  pub size : size_at words (m - 1) ≡ 1
  pub index : index_at words (m - 1) ≡ m - 1

pub mark_row : {n : ℕ} {words : List ℕ} → Accepted n words → (mark_at n words ≡ 0 → ⊥) → Marks words n (mark_at n words)
mark_row {n} {words} a marked = record {
  set = omega (arith, marked);
  passed = leb-true _ _ (first (leb (mark_at n words) n) _ within_own);
  size = eqb-true _ _ (first (eqb (size_at words row) 1) _ own);
  index = eqb-true _ _ (second (eqb (size_at words row) 1) _ own);
}
  where
    or : (a b : Bool) → (a ≡ true → ⊥) → (a || b) ≡ true → b ≡ true
    or true b h e = absurd (h refl)
    or false b h e = e

    row : ℕ
    row = mark_at n words - 1

    within_own : (leb (mark_at n words) n && own_pivot words row) ≡ true
    within_own = or (eqb (mark_at n words) 0) _ (λ e. marked (eqb-true _ _ e)) (record_holds n words a.done).1.0

    own : own_pivot words row ≡ true
    own = second (leb (mark_at n words) n) _ within_own

pub mark_within : {n : ℕ} {words : List ℕ} → Accepted n words → mark_at n words ≤ n
mark_within {n} {words} a = ⊎_elim (λ (none : mark_at n words ≡ 0). omega arith) (λ marked. (mark_row a marked).passed) (eq_or_ne (mark_at n words) 0)
