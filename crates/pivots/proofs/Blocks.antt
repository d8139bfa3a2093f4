-- A sound block, by its size: what the rule says of its words, and how many rows it has.
--     One, Two       the rule of a block of size 1 or 2 at row k
--     one_rows, two_rows, no_rows     the rows of a block, from its words
--     block_found    a block that has rows is one of the two
use mathlib.Core.Bool.{Bool, true, false, cond, ◌&&◌, true≢false}
use mathlib.Core.List.{List}
use mathlib.Core.Path.{◌≡◌, refl}
use mathlib.Core.Logic.{◌⊎◌, inl, inr, ⊎_elim}
use Prim.Native.Nat.{ℕ, ◌+◌, ◌<◌, ◌≤◌}
use native.Mathlib.Omega.{arith}
use borrow.Author.Tests.{eq-eqb, ne_eqb, le-leb, lt-ltb, eqb-true, leb-true, ltb-true}
use lib.Dec.{leb, ltb, eqb}
use Rattle.pivots.specs.Words.{index_at, size_at}
use Rattle.pivots.specs.Rule.{sound_one, sound_two, block_of}

pub record One (n : ℕ) (words : List ℕ) (k : ℕ) : Type 0 where
  pub size : size_at words k ≡ 1
  pub low : k ≤ index_at words k
  pub high : index_at words k < n

pub record Two (n : ℕ) (words : List ℕ) (k : ℕ) : Type 0 where
  pub size : size_at words k ≡ 2
  pub room : k + 1 < n
  pub low : k + 1 ≤ index_at words k
  pub high : index_at words k < n
  pub index₂ : index_at words (k + 1) ≡ index_at words k
  pub size₂ : size_at words (k + 1) ≡ 2

-- the two halves of a test
pub first : (a b : Bool) → (a && b) ≡ true → a ≡ true
first true b h = refl
first false b h = h

pub second : (a b : Bool) → (a && b) ≡ true → b ≡ true
second true b h = h
second false true h = refl
second false false h = h

one_true : (n : ℕ) (words : List ℕ) (k : ℕ) → One n words k → sound_one n words k ≡ true
one_true n words k o = simp (eq-eqb _ _ o.size, le-leb _ _ o.low, lt-ltb _ _ o.high)

true_one : (n : ℕ) (words : List ℕ) (k : ℕ) → sound_one n words k ≡ true → One n words k
true_one n words k h =
    let rest = second (eqb (size_at words k) 1) _ h in
    record {
      size = eqb-true _ _ (first (eqb (size_at words k) 1) _ h);
      low = leb-true _ _ (first (leb k (index_at words k)) _ rest);
      high = ltb-true _ _ (second (leb k (index_at words k)) _ rest);
    }

two_true : (n : ℕ) (words : List ℕ) (k : ℕ) → Two n words k → sound_two n words k ≡ true
two_true n words k t =
    simp
    (eq-eqb _ _ t.size, lt-ltb _ _ t.room, le-leb _ _ t.low, lt-ltb _ _ t.high, eq-eqb _ _ t.index₂, eq-eqb _ _ t.size₂)

true_two : (n : ℕ) (words : List ℕ) (k : ℕ) → sound_two n words k ≡ true → Two n words k
true_two n words k h =
    let r₁ = second (eqb (size_at words k) 2) _ h in
    let r₂ = second (ltb (k + 1) n) _ r₁ in
    let r₃ = second (leb (k + 1) (index_at words k)) _ r₂ in
    let r₄ = second (ltb (index_at words k) n) _ r₃ in
    record {
      size = eqb-true _ _ (first (eqb (size_at words k) 2) _ h);
      room = ltb-true _ _ (first (ltb (k + 1) n) _ r₁);
      low = leb-true _ _ (first (leb (k + 1) (index_at words k)) _ r₂);
      high = ltb-true _ _ (first (ltb (index_at words k) n) _ r₃);
      index₂ = eqb-true _ _ (first (eqb (index_at words (k + 1)) (index_at words k)) _ r₄);
      size₂ = eqb-true _ _ (second (eqb (index_at words (k + 1)) (index_at words k)) _ r₄);
    }

pub one_rows : (n : ℕ) (words : List ℕ) (k : ℕ) → One n words k → block_of n words k ≡ 1
unfolding block_of
one_rows n words k o = rw (one_true n words k o)

not_one : (a b : Bool) → a ≡ false → (a && b) ≡ false
not_one true b h = absurd (true≢false h)
not_one false b h = refl

size_not_one : (n : ℕ) (words : List ℕ) (k : ℕ) → Two n words k → sound_one n words k ≡ false
size_not_one n words k t = not_one (eqb (size_at words k) 1) _ (ne_eqb _ _ (λ (e : size_at words k ≡ 1). omega arith))

pub two_rows : (n : ℕ) (words : List ℕ) (k : ℕ) → Two n words k → block_of n words k ≡ 2
unfolding block_of
two_rows n words k t = rw (two_true n words k t, size_not_one n words k t)

neither : (a b : Bool) → (a ≡ true → ⊥) → (b ≡ true → ⊥) → ◌≡◌ {A = ℕ} (cond a 1 (cond b 2 0)) 0
neither true b h g = absurd (h refl)
neither false true h g = absurd (g refl)
neither false false h g = refl

pub no_rows : (n : ℕ) (words : List ℕ) (k : ℕ) → (One n words k → ⊥) → (Two n words k → ⊥) → block_of n words k ≡ 0
unfolding block_of
no_rows n words k h g =
    neither (sound_one n words k) (sound_two n words k) (λ e. h (true_one n words k e)) (λ e. g (true_two n words k e))

either : (a b : Bool) → (◌≡◌ {A = ℕ} (cond a 1 (cond b 2 0)) 0 → ⊥) → (a ≡ true) ⊎ (b ≡ true)
either true b h = inl refl
either false true h = inr refl
either false false h = absurd (h refl)

pub block_found : (n : ℕ) (words : List ℕ) (k : ℕ) → (block_of n words k ≡ 0 → ⊥) → One n words k ⊎ Two n words k
unfolding block_of
block_found n words k h =
    ⊎_elim (λ e. inl (true_one n words k e)) (λ e. inr (true_two n words k e))
    (either (sound_one n words k) (sound_two n words k) h)
