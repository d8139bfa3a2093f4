-- Entries stored one after the other, and loops that store. Assumes nothing.
--     entry_here  entry_skip  entry_row  entry_column      what one entry stored leaves
--     entry_apart  store_past                              two stores in different columns, in either order
--     exchange_first  exchange_second  exchange_skip       what an exchange leaves
--     swaps_skip  swaps_first  swaps_second                a loop of exchanges at places that do not meet
--     column_other  row_other  row_here                    a loop over rows that stores in its own row of column j
use mathlib.Core.Path.{◌≡◌, refl, sym, ◌∙◌, ap, subst, fun_ext}
use mathlib.Core.Bool.{Bool, true, false, cond, ◌&&◌}
use Prim.Native.Nat.{ℕ, ◌+◌, ◌≤◌, ◌<◌}
use native.Mathlib.Omega.{arith}
use lib.Dec.{T, eqb, eqb→eq}
use lib.Ieee.{Float}
use lib.Ieee.Fits.{and_r}
use borrow.Author.Tests.{eq-eqb, ne_eqb, eqb-true}
use Rattle.matrix.specs.Matrix.{Matrix, entry, exchange}
use Rattle.matrix.specs.Loop.{for}
use Rattle.matrix.proofs.Loops.{for_still, for_at}

-- ---- one entry stored

pub entry_here : (M : Matrix) (i j : ℕ) (v : Float) → entry M i j v i j ≡ v
unfolding entry
entry_here M i j v = rw (eq-eqb i i refl, eq-eqb j j refl)

pub entry_skip : (M : Matrix) (i j : ℕ) (v : Float) (r c : ℕ) → (r ≡ i → c ≡ j → ⊥) → entry M i j v r c ≡ M r c
unfolding entry
entry_skip M i j v r c apart = by (eqb r i) refl
  where
    by : (b : Bool) → eqb r i ≡ b → cond (b && eqb c j) v (M r c) ≡ M r c
    by true e = rw (ne_eqb c j (apart (eqb-true r i e)))
    by false e = refl

pub entry_row : (M : Matrix) (i j : ℕ) (v : Float) (r c : ℕ) → (r ≡ i → ⊥) → entry M i j v r c ≡ M r c
entry_row M i j v r c apart = entry_skip M i j v r c (λ e f. apart e)

pub entry_column : (M : Matrix) (i j : ℕ) (v : Float) (r c : ℕ) → (c ≡ j → ⊥) → entry M i j v r c ≡ M r c
entry_column M i j v r c apart = entry_skip M i j v r c (λ e f. apart f)

-- ---- two entries stored in different columns

pub entry_apart : (M : Matrix) (i j r c : ℕ) (x y : Float) → (c ≡ j → ⊥) → entry (entry M i j x) r c y ≡ entry (entry M r c y) i j x
unfolding entry
entry_apart M i j r c x y apart = fun_ext (λ p. fun_ext (λ q. at p q (eqb p r && eqb q c) (eqb p i && eqb q j) refl refl))
  where
    at : (p q : ℕ) (second first : Bool) → (eqb p r && eqb q c) ≡ second → (eqb p i && eqb q j) ≡ first
        → cond (eqb p r && eqb q c) y (cond (eqb p i && eqb q j) x (M p q)) ≡ cond (eqb p i && eqb q j) x (cond (eqb p r && eqb q c) y (M p q))
    at p q true true e f =
        let column : q ≡ c = eqb→eq q c (and_r (eqb p r) (eqb q c) (subst T (sym e) tt)) in
        let column' : q ≡ j = eqb→eq q j (and_r (eqb p i) (eqb q j) (subst T (sym f) tt)) in
        absurd (apart (sym column ∙ column'))
    at p q true false e f = rw (e, f)
    at p q false true e f = rw (e, f)
    at p q false false e f = rw (e, f)

-- neither value sees the other's place
pub store_past : (M : Matrix) (i j r c : ℕ) (u v : Matrix → Float) → (c ≡ j → ⊥) → ((x : Float) → u (entry M r c x) ≡ u M) → ((x : Float) → v (entry M i j x) ≡ v M)
    → entry (entry M i j (u M)) r c (v (entry M i j (u M))) ≡ entry (entry M r c (v M)) i j (u (entry M r c (v M)))
store_past M i j r c u v apart blind blind' =
    ap (λ (x : Float). entry (entry M i j (u M)) r c x) (blind' (u M))
    ∙ entry_apart M i j r c (u M) (v M) apart
    ∙ ap (λ (x : Float). entry (entry M r c (v M)) i j x) (sym (blind (v M)))

-- ---- two entries exchanged

module _ (M : Matrix) (i j r c : ℕ) where
  pub exchange_skip : (x y : ℕ) → (x ≡ i → y ≡ j → ⊥) → (x ≡ r → y ≡ c → ⊥) → exchange M i j r c x y ≡ M x y
  unfolding exchange
  exchange_skip x y first second = entry_skip (entry M i j (M r c)) r c (M i j) x y second ∙ entry_skip M i j (M r c) x y first

  pub exchange_first : (i ≡ r → j ≡ c → ⊥) → exchange M i j r c i j ≡ M r c
  unfolding exchange
  exchange_first two = entry_skip (entry M i j (M r c)) r c (M i j) i j two ∙ entry_here M i j (M r c)

  pub exchange_second : exchange M i j r c r c ≡ M i j
  unfolding exchange
  exchange_second = entry_here (entry M i j (M r c)) r c (M i j)

-- ---- a loop of exchanges: turn i exchanges (a i, b i) and (c i, d i)

module _ (a b c d : ℕ → ℕ) where
  abbrev pub swaps : ℕ → Matrix → Matrix
  swaps i M = exchange M (a i) (b i) (c i) (d i)

  -- turn i leaves (x, y)
  abbrev pub Apart : ℕ → ℕ → ℕ → Type 0
  Apart i x y = (x ≡ a i → y ≡ b i → ⊥) × (x ≡ c i → y ≡ d i → ⊥)

  pub swaps_skip : (lo hi : ℕ) (M : Matrix) (x y : ℕ) → ((i : ℕ) → lo ≤ i → i < hi → Apart i x y) → for lo hi swaps M x y ≡ M x y
  swaps_skip lo hi M x y apart =
      for_still (λ (N : Matrix). N x y) lo hi swaps M (λ i N from upto. exchange_skip N (a i) (b i) (c i) (d i) x y (apart i from upto).0 (apart i from upto).1)

  module _ (lo hi j : ℕ) (M : Matrix) (from : lo ≤ j) (upto : j < hi)
      (apart : (i : ℕ) → lo ≤ i → i < hi → (i ≡ j → ⊥) → Apart i (a j) (b j) × Apart i (c j) (d j)) where
    before : Matrix
    before = for lo j swaps M

    pub swaps_first : (a j ≡ c j → b j ≡ d j → ⊥) → for lo hi swaps M (a j) (b j) ≡ M (c j) (d j)
    unfolding before
    swaps_first two =
        ap (λ (N : Matrix). N (a j) (b j)) (for_at lo hi j swaps M from upto)
        ∙ swaps_skip (j + 1) hi (swaps j before) (a j) (b j) (λ i low high. (apart i (omega arith) high (omega arith)).0)
        ∙ exchange_first before (a j) (b j) (c j) (d j) two
        ∙ swaps_skip lo j M (c j) (d j) (λ i low high. (apart i low (omega arith) (omega arith)).1)

    pub swaps_second : for lo hi swaps M (c j) (d j) ≡ M (a j) (b j)
    unfolding before
    swaps_second =
        ap (λ (N : Matrix). N (c j) (d j)) (for_at lo hi j swaps M from upto)
        ∙ swaps_skip (j + 1) hi (swaps j before) (c j) (d j) (λ i low high. (apart i (omega arith) high (omega arith)).1)
        ∙ exchange_second before (a j) (b j) (c j) (d j)
        ∙ swaps_skip lo j M (a j) (b j) (λ i low high. (apart i low (omega arith) (omega arith)).0)

-- ---- a loop over rows that stores in its own row of column j

module _ (j : ℕ) (new : ℕ → Matrix → Float) where
  abbrev pub stores : ℕ → Matrix → Matrix
  stores i M = entry M i j (new i M)

  pub column_other : (lo hi : ℕ) (M : Matrix) (r c : ℕ) → (c ≡ j → ⊥) → for lo hi stores M r c ≡ M r c
  column_other lo hi M r c apart = for_still (λ (N : Matrix). N r c) lo hi stores M (λ i N from upto. entry_column N i j (new i N) r c apart)

  pub row_other : (lo hi : ℕ) (M : Matrix) (r c : ℕ) → ((i : ℕ) → lo ≤ i → i < hi → r ≡ i → ⊥) → for lo hi stores M r c ≡ M r c
  row_other lo hi M r c apart = for_still (λ (N : Matrix). N r c) lo hi stores M (λ i N from upto. entry_row N i j (new i N) r c (apart i from upto))

  pub row_here : (lo hi : ℕ) (M : Matrix) (r : ℕ) → lo ≤ r → r < hi → for lo hi stores M r j ≡ new r (for lo r stores M)
  row_here lo hi M r from upto =
      ap (λ (N : Matrix). N r j) (for_at lo hi r stores M from upto)
      ∙ row_other (r + 1) hi (stores r (for lo r stores M)) r j (omega arith)
      ∙ entry_here (for lo r stores M) r j (new r (for lo r stores M))
