-- The laws of a slice that holds a matrix, over any grid.
--   holds_none  holds_put  holds_then    nothing done; one entry stored; one step after another
--   turned_none -more -two -all          a loop that writes: `Turned g lo hi f l₀ i l` is its invariant
--   holds_unique                         two slices that hold one matrix over one slice are equal
--   holds_part                           a part of the grid, where the other entries are as they were
--   load_in     same_cells               an entry of `load`; two matrices that agree on the grid
--   Bare  bare_load -entry -exchange -mask   nothing stands outside the grid: of what a slice holds, after a store, after two; such a matrix is its own mask
-- Assumes nothing.
use mathlib.Core.Path.{◌≡◌, refl, sym, ◌∙◌, ap, subst, fun_ext}
use mathlib.Core.Bool.{Bool, true, false, cond, ◌&&◌}
use mathlib.Core.List.{List}
use mathlib.Core.Logic.{◌⊎◌, inl, inr, ⊎_elim}
use Prim.Native.Nat.{ℕ, zero, suc, ◌+◌, ◌≤◌, ◌<◌}
use native.Mathlib.Nat.{not-suc-le-zero, le_of_suc-le-suc, eq-or-lt_of_le}
use native.Mathlib.Omega.{arith}
use lib.Dec.{T, eqb, eqb→eq}
use lib.ListN.{get_or, set, length-set}
use lib.Seq.{get_or-set_same, get_or-set_other, ext_get_or}
use lib.Ieee.{Float, nan}
use lib.Ieee.Bits.{is_true}
use lib.Ieee.Fits.{and_l, and_r}
use borrow.Author.Tests.{eq-eqb, eqb-true, eqb-false}
use Rattle.matrix.specs.Matrix.{Matrix, entry, exchange}
use Rattle.matrix.specs.Loop.{for}
use Rattle.matrix.specs.Grid.{Grid, Fair, Sound, load, mask, Free, Holds}
use Rattle.matrix.proofs.Loops.{for_none, for_more, for_two, for_join}
use Rattle.matrix.proofs.Stores.{entry_skip}

-- ---- an entry of a slice

pub load_in : (g : Grid) (l : List Float) (i j : ℕ) → T (g.inside i j) → load g l i j ≡ get_or l (g.place i j) nan
unfolding load
load_in g l i j t = rw (is_true (g.inside i j) t)

-- a matrix that agrees with the slice at each entry of the grid
pub load_is : (g : Grid) (l : List Float) (M : Matrix) → ((i j : ℕ) → T (g.inside i j) → get_or l (g.place i j) nan ≡ M i j) → load g l ≡ mask g M
unfolding load mask
load_is g l M each = fun_ext (λ i. fun_ext (λ j. at i j (g.inside i j) refl))
  where
    at : (i j : ℕ) (b : Bool) → g.inside i j ≡ b → cond (g.inside i j) (get_or l (g.place i j) nan) nan ≡ cond (g.inside i j) (M i j) nan
    at i j true e = rw e (each i j (subst T (sym e) tt))
    at i j false e = rw e

pub mask_in : (g : Grid) (M : Matrix) (i j : ℕ) → T (g.inside i j) → mask g M i j ≡ M i j
unfolding mask
mask_in g M i j t = rw (is_true (g.inside i j) t)

pub mask_load : (g : Grid) (l : List Float) → mask g (load g l) ≡ load g l
mask_load g l = sym (load_is g l (load g l) (λ i j t. sym (load_in g l i j t)))

-- two matrices that agree on the grid
pub same_cells : (g : Grid) (M N : Matrix) → ((i j : ℕ) → T (g.inside i j) → M i j ≡ N i j) → mask g M ≡ mask g N
unfolding mask
same_cells g M N each = fun_ext (λ i. fun_ext (λ j. at i j (g.inside i j) refl))
  where
    at : (i j : ℕ) (b : Bool) → g.inside i j ≡ b → cond (g.inside i j) (M i j) nan ≡ cond (g.inside i j) (N i j) nan
    at i j true e = rw e (each i j (subst T (sym e) tt))
    at i j false e = rw e

-- ---- nothing stands outside

pub record Bare (g : Grid) (M : Matrix) : Type 0 where
  pub outside : (i j : ℕ) → g.inside i j ≡ false → M i j ≡ nan

pub bare_load : (g : Grid) (l : List Float) → Bare g (load g l)
unfolding load
bare_load g l = record { outside = λ i j out. rw out }

pub bare_entry : {g : Grid} {M : Matrix} (i j : ℕ) (v : Float) → T (g.inside i j) → Bare g M → Bare g (entry M i j v)
bare_entry {g} {M} i j v here bare = record { outside = λ r c out. entry_skip M i j v r c (λ row column. apart r c out row column) ∙ bare.outside r c out }
  where
    apart : (r c : ℕ) → g.inside r c ≡ false → r ≡ i → c ≡ j → ⊥
    apart r c out row column = let gone : g.inside i j ≡ false = rw (row, column) at out in subst T gone here

pub bare_exchange : {g : Grid} {M : Matrix} (i j r c : ℕ) → T (g.inside i j) → T (g.inside r c) → Bare g M → Bare g (exchange M i j r c)
unfolding exchange
bare_exchange {M = M} i j r c here there bare = bare_entry r c (M i j) there (bare_entry i j (M r c) here bare)

pub bare_mask : {g : Grid} {M : Matrix} → Bare g M → mask g M ≡ M
unfolding mask
bare_mask {g} {M} bare = fun_ext (λ i. fun_ext (λ j. at i j (g.inside i j) refl))
  where
    at : (i j : ℕ) (b : Bool) → g.inside i j ≡ b → cond (g.inside i j) (M i j) nan ≡ M i j
    at i j true e = rw e
    at i j false e = rw e (sym (bare.outside i j e))

-- ---- one entry stored

module _ (g : Grid) (l : List Float) (good : Sound g l) (i j : ℕ) (here : T (g.inside i j)) (v : Float) where
  -- at an entry of the grid that is not (i, j), what was there
  other : (r c : ℕ) → T (g.inside r c) → (eqb r i && eqb c j) ≡ false → get_or (set l (g.place i j) v) (g.place r c) nan ≡ get_or l (g.place r c) nan
  other r c there apart =
      get_or-set_other l (g.place i j) (g.place r c) v nan (λ e.
      let row : r ≡ i = good.fair.row r c i j there here e in
      let column : c ≡ j = good.fair.column r c i j there here e in
      let both : (eqb r i && eqb c j) ≡ true = rw (eq-eqb r i row, eq-eqb c j column) in
      let z : ◌≡◌ {A = Bool} true false = sym both ∙ apart in
      subst T z tt)

  stored : (r c : ℕ) → load g (set l (g.place i j) v) r c ≡ entry (load g l) i j v r c
  unfolding load entry
  stored r c = at (eqb r i && eqb c j) (g.inside r c) refl refl
    where
      at : (here? there? : Bool) → (eqb r i && eqb c j) ≡ here? → g.inside r c ≡ there?
          → cond (g.inside r c) (get_or (set l (g.place i j) v) (g.place r c) nan) nan ≡ cond (eqb r i && eqb c j) v (cond (g.inside r c) (get_or l (g.place r c) nan) nan)
      at true b e f =
          let pair : T (eqb r i && eqb c j) = subst T (sym e) tt in
          let row : i ≡ r = sym (eqb→eq r i (and_l (eqb r i) (eqb c j) pair)) in
          let column : j ≡ c = sym (eqb→eq c j (and_r (eqb r i) (eqb c j) pair)) in
          rw e (subst (λ (c : ℕ). cond (g.inside r c) (get_or (set l (g.place i j) v) (g.place r c) nan) nan ≡ v) column
          (subst (λ (r : ℕ). cond (g.inside r j) (get_or (set l (g.place i j) v) (g.place r j) nan) nan ≡ v) row
          (rw (is_true (g.inside i j) here) (get_or-set_same l (g.place i j) v nan (subst (λ (k : ℕ). g.place i j < k) (sym good.long) (good.fair.within i j here))))))
      at false true e f = rw (e, f) (other r c (subst T (sym f) tt) e)
      at false false e f = rw (e, f)

  pub holds_put : Holds g l (set l (g.place i j) v) (entry (load g l) i j v)
  holds_put = record {
    sound = record { fair = good.fair; long = length-set l (g.place i j) v ∙ good.long };
    cells = fun_ext (λ r. fun_ext (λ c. stored r c));
    kept = λ p free. get_or-set_other l (g.place i j) p v nan (λ e. free i j here e);
  }

-- ---- steps

pub holds_none : {g : Grid} {l : List Float} → Sound g l → Holds g l l (load g l)
holds_none good = record { sound = good; cells = refl; kept = λ p free. refl }

-- a step f after what was done
pub holds_then : {g : Grid} {l₀ l l' : List Float} {M : Matrix} (f : Matrix → Matrix) → Holds g l₀ l M → Holds g l l' (f (load g l)) → Holds g l₀ l' (f M)
holds_then f before step = record {
  sound = step.sound;
  cells = step.cells ∙ ap f before.cells;
  kept = λ p free. step.kept p free ∙ before.kept p free;
}

-- the matrix under another name
pub holds_as : {g : Grid} {l₀ l : List Float} {M N : Matrix} → Holds g l₀ l M → M ≡ N → Holds g l₀ l N
holds_as h e = record { sound = h.sound; cells = h.cells ∙ e; kept = h.kept }

-- ---- a loop that writes: turns lo up to i are done

pub record Turned (g : Grid) (lo hi : ℕ) (f : ℕ → Matrix → Matrix) (l₀ : List Float) (i : ℕ) (l : List Float) : Type 0 where
  pub from : lo ≤ i
  pub upto : i ≤ hi
  pub holds : Holds g l₀ l (for lo i f (load g l₀))

pub turned_none : {g : Grid} {lo hi : ℕ} {f : ℕ → Matrix → Matrix} {l : List Float} → Sound g l → lo ≤ hi → Turned g lo hi f l lo l
turned_none {g} {lo} {hi} {f} {l} good h =
    record { from = omega arith; upto = h; holds = holds_as (holds_none good) (sym (for_none lo f (load g l))) }

pub turned_more : {g : Grid} {lo hi : ℕ} {f : ℕ → Matrix → Matrix} {l₀ : List Float} {i : ℕ} {l l' : List Float}
    → Turned g lo hi f l₀ i l → i < hi → Holds g l l' (f i (load g l)) → Turned g lo hi f l₀ (i + 1) l'
turned_more {g} {lo} {hi} {f} {l₀} {i} {l} {l'} t below step =
    record { from = omega arith; upto = omega arith; holds = holds_as (holds_then (f i) t.holds step) (sym (for_more lo i f (load g l₀) t.from)) }

-- two turns more
pub turned_two : {g : Grid} {lo hi : ℕ} {f : ℕ → Matrix → Matrix} {l₀ : List Float} {i : ℕ} {l l' : List Float}
    → Turned g lo hi f l₀ i l → i + 1 < hi → Holds g l l' (f (i + 1) (f i (load g l))) → Turned g lo hi f l₀ (i + 2) l'
turned_two {g} {lo} {hi} {f} {l₀} {i} t below step =
    record {
      from = omega (arith, t.from);
      upto = omega arith;
      holds =
          holds_as (holds_then (λ (M : Matrix). f (i + 1) (f i M)) t.holds step)
          (sym (for_two i f (for lo i f (load g l₀))) ∙ for_join lo i (i + 2) f (load g l₀) t.from (omega arith));
    }

pub turned_all : {g : Grid} {lo hi : ℕ} {f : ℕ → Matrix → Matrix} {l₀ : List Float} {i : ℕ} {l : List Float}
    → Turned g lo hi f l₀ i l → hi ≤ i → Holds g l₀ l (for lo hi f (load g l₀))
turned_all {g} {lo} {hi} {f} {l₀} {i} {l} t past =
    holds_as t.holds (ap (λ (k : ℕ). for lo k f (load g l₀)) (omega arith))

-- ---- what a slice holds fixes the slice

-- whether P holds of a number below c
some? : (P : ℕ → Type 0) → ((k : ℕ) → P k ⊎ (P k → ⊥)) → (c : ℕ) → ((k : ℕ) × P k) ⊎ ((k : ℕ) → k < c → P k → ⊥)
some? P at? zero = inr (λ k h. absurd (not-suc-le-zero h))
some? P at? (suc c) =
    ⊎_elim (λ found. inl found)
    (λ none. ⊎_elim (λ here. inl (c, here)) (λ not. inr (λ k h. ⊎_elim (λ same. subst (λ (m : ℕ). P m → ⊥) (sym same) not) (none k) (eq-or-lt_of_le (le_of_suc-le-suc h)))) (at? c))
    (some? P at? c)

module _ (g : Grid) (fair : Fair g) (p : ℕ) where
  -- the entry (i, j) stands at p
  abbrev At : ℕ → ℕ → Type 0
  At i j = T (g.inside i j) × (p ≡ g.place i j)

  at? : (i j : ℕ) → At i j ⊎ (At i j → ⊥)
  at? i j = pick (g.inside i j) (eqb p (g.place i j)) refl refl
    where
      pick : (a b : Bool) → g.inside i j ≡ a → eqb p (g.place i j) ≡ b → At i j ⊎ (At i j → ⊥)
      pick true true e f = inl (subst T (sym e) tt, eqb-true p (g.place i j) f)
      pick true false e f = inr (λ h. eqb-false p (g.place i j) f h.1)
      pick false b e f = inr (λ h. subst T e h.0)

  in_row? : (i : ℕ) → ((j : ℕ) × At i j) ⊎ (((j : ℕ) × At i j) → ⊥)
  in_row? i = ⊎_elim (λ found. inl found) (λ none. inr (λ h. none h.0 (fair.left i h.0 h.1.0) h.1)) (some? (At i) (at? i) fair.reach)

  -- an entry stands at p, or none does
  entry? : ((i : ℕ) × ((j : ℕ) × At i j)) ⊎ Free g p
  entry? =
      ⊎_elim (λ found. inl found)
      (λ none. inr (λ i j t e. none i (fair.low i j t) (j, (t, e))))
      (some? (λ i. (j : ℕ) × At i j) in_row? fair.reach)

pub holds_unique : {g : Grid} {l₀ l l' : List Float} {M : Matrix} → Holds g l₀ l M → Holds g l₀ l' M → l ≡ l'
holds_unique {g} {l₀} {l} {l'} h h' = ext_get_or nan l l' (h.sound.long ∙ sym h'.sound.long) (λ p below. at p)
  where
    cell : (i j : ℕ) → T (g.inside i j) → get_or l (g.place i j) nan ≡ get_or l' (g.place i j) nan
    cell i j t = sym (load_in g l i j t) ∙ ap (λ (N : Matrix). N i j) (h.cells ∙ sym h'.cells) ∙ load_in g l' i j t

    at : (p : ℕ) → get_or l p nan ≡ get_or l' p nan
    at p =
        ⊎_elim
        (λ found. subst (λ (k : ℕ). get_or l k nan ≡ get_or l' k nan) (sym found.1.1.1) (cell found.0 found.1.0 found.1.1.0))
        (λ free. h.kept p free ∙ sym (h'.kept p free))
        (entry? g h.sound.fair p)

-- ---- a part of a grid

-- each entry of z is one of g, at the same place
pub record PartOf (z g : Grid) : Type 0 where
  pub fair : Fair z
  pub size : z.size ≡ g.size
  pub inside : (i j : ℕ) → T (z.inside i j) → T (g.inside i j)
  pub place : (i j : ℕ) → T (z.inside i j) → z.place i j ≡ g.place i j

-- where the other entries of g are as they were, the part alone was written
pub holds_part : {z g : Grid} {l₀ l : List Float} {M : Matrix} → PartOf z g → Holds g l₀ l M
    → ((i j : ℕ) → T (g.inside i j) → (T (z.inside i j) → ⊥) → M i j ≡ load g l₀ i j) → Holds z l₀ l (mask z M)
holds_part {z} {g} {l₀} {l} {M} part h others = record {
  sound = record { fair = part.fair; long = h.sound.long ∙ sym part.size };
  cells = load_is z l M (λ i j t. ap (λ (p : ℕ). get_or l p nan) (part.place i j t) ∙ stands i j (part.inside i j t));
  kept = λ p free. ⊎_elim (λ found. kept p free found.0 found.1.0 found.1.1.0 found.1.1.1 (z.inside found.0 found.1.0) refl) (h.kept p) (entry? g h.sound.fair p);
}
  where
    stands : (i j : ℕ) → T (g.inside i j) → get_or l (g.place i j) nan ≡ M i j
    stands i j t = sym (load_in g l i j t) ∙ ap (λ (N : Matrix). N i j) h.cells

    kept : (p : ℕ) → Free z p → (i j : ℕ) → T (g.inside i j) → p ≡ g.place i j → (b : Bool) → z.inside i j ≡ b → get_or l p nan ≡ get_or l₀ p nan
    kept p free i j t at true e = let t' : T (z.inside i j) = subst T (sym e) tt in absurd (free i j t' (at ∙ sym (part.place i j t')))
    kept p free i j t at false e = ap (λ (q : ℕ). get_or l q nan) at ∙ stands i j t ∙ others i j t (λ t'. subst T e t') ∙ load_in g l₀ i j t ∙ ap (λ (q : ℕ). get_or l₀ q nan) (sym at)
