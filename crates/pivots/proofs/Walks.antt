-- The laws of going through the blocks of an accepted record.
--     Along    going forwards, s is reached at row k:    along_none, along_more, along_all
--     Back     going backwards, s is reached at row k:   back_none, back_more, back_all
--     block_at, block_before      what the step at a row may ask of the record
--     boundary_next               where the block at a boundary ends
--     one_is, two_is, reads_one, reads_two     by the size as it is read
use mathlib.Core.List.{List}
use mathlib.Core.Logic.{◌⊎◌, inl, inr, ⊎_elim}
use mathlib.Core.Path.{◌≡◌, refl, sym, subst, ◌∙◌}
use Prim.Native.Nat.{ℕ, zero, suc, ◌+◌, ◌-◌, ◌<◌, ◌≤◌}
use native.Mathlib.Omega.{arith}
use borrow.Author.Tests.{eq-eqb, ne_eqb, lt-ltb, le-ltb}
use Rattle.answer.proofs.Tests.{eq_or_ne}
use Rattle.pivots.specs.Words.{size_at}
use Rattle.pivots.specs.Rule.{Accepted}
use Rattle.pivots.proofs.Boundaries.{Boundary, boundary_none, boundary_all, is_one, is_two, boundary_one, boundary_two, last_one, last_two_law}
use Rattle.pivots.specs.Blocks.{by_size, rows_of, blocks_from, forwards, blocks_to, backwards}
use Rattle.pivots.specs.inner.Block.{BlockAt, BlockBefore}

pub size_one : {S : Type 0} (words : List ℕ) (row : ℕ) (one two : S) → size_at words row ≡ 1 → by_size words row one two ≡ one
unfolding by_size
size_one words row one two e = rw (eq-eqb _ _ e)

pub size_two : {S : Type 0} (words : List ℕ) (row : ℕ) (one two : S) → (size_at words row ≡ 1 → ⊥) → by_size words row one two ≡ two
unfolding by_size
size_two words row one two other = rw (ne_eqb _ _ other)

pub rows_one : (words : List ℕ) (row : ℕ) → size_at words row ≡ 1 → rows_of words row ≡ 1
unfolding rows_of
rows_one words row e = size_one words row 1 2 e

pub rows_two : (words : List ℕ) (row : ℕ) → (size_at words row ≡ 1 → ⊥) → rows_of words row ≡ 2
unfolding rows_of
rows_two words row other = size_two words row 1 2 other

-- by the size as it is read
module _ (words : List ℕ) (row : ℕ) {size : ℕ} (reads : size ≡ size_at words row) where
  pub one_is : {S : Type 0} {s : S} (t : S) → size ≡ 1 → s ≡ by_size words row s t
  one_is {s = s} t one = sym (size_one words row s t (sym reads ∙ one))

  pub two_is : {S : Type 0} (s : S) {t : S} → (size ≡ 1 → ⊥) → t ≡ by_size words row s t
  two_is s {t} other = sym (size_two words row s t (λ e. other (reads ∙ e)))

  pub reads_one : size ≡ 1 → rows_of words row ≡ 1
  reads_one one = rows_one words row (sym reads ∙ one)

  pub reads_two : (size ≡ 1 → ⊥) → rows_of words row ≡ 2
  reads_two other = rows_two words row (λ e. other (reads ∙ e))

pub rows_positive : (words : List ℕ) (row : ℕ) → 0 < rows_of words row
rows_positive words row =
    ⊎_elim (λ e. omega (arith, rows_one words row e)) (λ other. omega (arith, rows_two words row other)) (eq_or_ne (size_at words row) 1)

-- ---- forwards

pub record Along {S : Type 0} (n : ℕ) (words : List ℕ) (f : ℕ → S → S) (s₀ : S) (k : ℕ) (s : S) : Type 0 where
  pub boundary : Boundary n words k
  pub fuel : ℕ
  pub enough : n ≤ k + fuel
  pub same : forwards n words f s₀ ≡ blocks_from fuel n words f k s

-- the block at a boundary
pub block_at : {n : ℕ} {words : List ℕ} {k : ℕ} → Accepted n words → Boundary n words k → k < n → BlockAt n words k
block_at {n} {words} {k} a b below = at (eq_or_ne (size_at words k) 1)
  where
    at : (size_at words k ≡ 1) ⊎ (size_at words k ≡ 1 → ⊥) → BlockAt n words k
    at (inl e) =
        let o = is_one b below e in
        record { total = a.sized.total; inside = below; rows = omega (arith, rows_one words k e); index = o.high }
    at (inr other) =
        let t = is_two b below other in
        record { total = a.sized.total; inside = below; rows = omega (arith, rows_two words k other, t.room); index = t.high }

-- the boundary after it
pub boundary_next : {n : ℕ} {words : List ℕ} {k : ℕ} → Boundary n words k → k < n → Boundary n words (k + rows_of words k)
boundary_next {n} {words} {k} b below = at (eq_or_ne (size_at words k) 1)
  where
    at : (size_at words k ≡ 1) ⊎ (size_at words k ≡ 1 → ⊥) → Boundary n words (k + rows_of words k)
    at (inl e) = rw (rows_one words k e) (boundary_one b (is_one b below e))
    at (inr other) = rw (rows_two words k other) (boundary_two b (is_two b below other))

pub along_none : {S : Type 0} {n : ℕ} {words : List ℕ} {f : ℕ → S → S} {s : S} → Accepted n words → Along n words f s 0 s
unfolding forwards
along_none {n = n} a = record { boundary = boundary_none a; fuel = n; enough = omega arith; same = refl }

more
    : {S : Type 0} (n : ℕ) (words : List ℕ) (f : ℕ → S → S) (fuel k : ℕ) (s₀ s : S)
    → Boundary n words k → k < n → n ≤ k + fuel → forwards n words f s₀ ≡ blocks_from fuel n words f k s
    → Along n words f s₀ (k + rows_of words k) (f k s)
unfolding blocks_from
more n words f zero k s₀ s b below enough same = absurd (omega arith)
more n words f (suc fuel) k s₀ s b below enough same =
    record {
      boundary = boundary_next b below;
      fuel = fuel;
      enough = omega (arith, rows_positive words k);
      same = same ∙ simp (lt-ltb k n below);
    }

pub along_more
    : {S : Type 0} {n : ℕ} {words : List ℕ} {f : ℕ → S → S} {s₀ : S} {k r : ℕ} {s s' : S}
    → Along n words f s₀ k s → k < n → r ≡ k + rows_of words k → s' ≡ f k s
    → Along n words f s₀ r s'
along_more {n = n} {words} {f} {s₀} {k} {r} {s} {s'} w below next step =
    subst (λ q. Along n words f s₀ q s') (sym next)
    (subst (Along n words f s₀ (k + rows_of words k)) (sym step)
    (more n words f w.fuel k s₀ s w.boundary below w.enough w.same))

past : {S : Type 0} (fuel n : ℕ) (words : List ℕ) (f : ℕ → S → S) (k : ℕ) (s : S) → n ≤ k → blocks_from fuel n words f k s ≡ s
unfolding blocks_from
past zero n words f k s h = refl
past (suc fuel) n words f k s h = simp (le-ltb k n h)

pub along_all
    : {S : Type 0} {n : ℕ} {words : List ℕ} {f : ℕ → S → S} {s₀ : S} {k : ℕ} {s : S}
    → Along n words f s₀ k s → n ≤ k
    → s ≡ forwards n words f s₀
along_all {n = n} {words} {f} {k = k} {s} w h = sym (w.same ∙ past w.fuel n words f k s h)

-- ---- backwards

pub record Back {S : Type 0} (n : ℕ) (words : List ℕ) (f : ℕ → S → S) (s₀ : S) (k : ℕ) (s : S) : Type 0 where
  pub boundary : Boundary n words k
  pub fuel : ℕ
  pub enough : k ≤ fuel
  pub same : backwards n words f s₀ ≡ blocks_to fuel words f k s

-- the block that ends at a boundary
pub block_before : {n : ℕ} {words : List ℕ} {k : ℕ} → Accepted n words → Boundary n words k → 0 < k → BlockBefore n words k
block_before {n} {words} {k} a b below = at (eq_or_ne (size_at words (k - 1)) 1)
  where
    at : (size_at words (k - 1) ≡ 1) ⊎ (size_at words (k - 1) ≡ 1 → ⊥) → BlockBefore n words k
    at (inl e) =
        let o = (last_one b below e).block in
        record { total = a.sized.total; inside = below; rows = omega (arith, rows_one words (k - 1) e); end = b.within; index = o.high }
    at (inr other) =
        let l = last_two_law b below other in
        let second : k - 2 + 1 ≡ k - 1 = omega (arith, l.rows) in
        record {
          total = a.sized.total;
          inside = below;
          rows = omega (arith, rows_two words (k - 1) other, l.rows);
          end = b.within;
          index = omega (arith, l.block.high, rw second at l.block.index₂);
        }

-- the boundary before it
boundary_last : {n : ℕ} {words : List ℕ} {k : ℕ} → Boundary n words k → 0 < k → Boundary n words (k - rows_of words (k - 1))
boundary_last {n} {words} {k} b below = at (eq_or_ne (size_at words (k - 1)) 1)
  where
    at : (size_at words (k - 1) ≡ 1) ⊎ (size_at words (k - 1) ≡ 1 → ⊥) → Boundary n words (k - rows_of words (k - 1))
    at (inl e) = rw (rows_one words (k - 1) e) (last_one b below e).boundary
    at (inr other) = rw (rows_two words (k - 1) other) (last_two_law b below other).boundary

pub back_none : {S : Type 0} {n : ℕ} {words : List ℕ} {f : ℕ → S → S} {s : S} → Accepted n words → Back n words f s n s
unfolding backwards
back_none {n = n} a = record { boundary = boundary_all a; fuel = n; enough = omega arith; same = refl }

less
    : {S : Type 0} (n : ℕ) (words : List ℕ) (f : ℕ → S → S) (fuel k : ℕ) (s₀ s : S)
    → Boundary n words k → 0 < k → k ≤ fuel → backwards n words f s₀ ≡ blocks_to fuel words f k s
    → Back n words f s₀ (k - rows_of words (k - 1)) (f k s)
unfolding blocks_to
less n words f zero k s₀ s b below enough same = absurd (omega arith)
less n words f (suc fuel) k s₀ s b below enough same =
    record {
      boundary = boundary_last b below;
      fuel = fuel;
      enough = omega (arith, rows_positive words (k - 1));
      same = same ∙ simp (lt-ltb 0 k below);
    }

pub back_more
    : {S : Type 0} {n : ℕ} {words : List ℕ} {f : ℕ → S → S} {s₀ : S} {k r : ℕ} {s s' : S}
    → Back n words f s₀ k s → 0 < k → r ≡ k - rows_of words (k - 1) → s' ≡ f k s
    → Back n words f s₀ r s'
back_more {n = n} {words} {f} {s₀} {k} {r} {s} {s'} w below next step =
    subst (λ q. Back n words f s₀ q s') (sym next)
    (subst (Back n words f s₀ (k - rows_of words (k - 1))) (sym step)
    (less n words f w.fuel k s₀ s w.boundary below w.enough w.same))

first_reached : {S : Type 0} (fuel : ℕ) (words : List ℕ) (f : ℕ → S → S) (k : ℕ) (s : S) → k ≤ 0 → blocks_to fuel words f k s ≡ s
unfolding blocks_to
first_reached zero words f k s h = refl
first_reached (suc fuel) words f k s h = simp (le-ltb 0 k h)

pub back_all
    : {S : Type 0} {n : ℕ} {words : List ℕ} {f : ℕ → S → S} {s₀ : S} {k : ℕ} {s : S}
    → Back n words f s₀ k s → k ≤ 0
    → s ≡ backwards n words f s₀
back_all {words = words} {f} {k = k} {s} w h = sym (w.same ∙ first_reached w.fuel words f k s h)
