-- The laws of strips. Assumes nothing.
--     Partway                                   a loop over a strip: rows lo up to i are done
--     strip_none, strip_more, strip_all         no row, one row more, all rows
--     strip_ahead, strip_apart                  a row that is not done yet, a row of another column
--     strip_nothing, strip_then, strip_as, strip_at, strip_join   strips that meet
--     plus_kept                                 what another column adds, before and after
--     axpy_row                                  what the loop stores
--     strip_part                                a part of the slice that is written as a whole
--     strip_holds                               a strip of a column of a grid
--     cleared, cleared_square                   a slice, a square matrix that is cleared
use mathlib.Core.Path.{◌≡◌, refl, sym, ◌∙◌, ap, ap₂, subst}
use mathlib.Core.Bool.{Bool, true, false}
use mathlib.Core.List.{List, [], ◌∷◌}
use mathlib.Core.Logic.{◌⊎◌, inl, inr, ⊎_elim}
use Prim.Native.Nat.{ℕ, ◌+◌, ◌-◌, ◌*◌, ◌≤◌, ◌<◌}
use native.Mathlib.Nat.{eq-or-lt_of_le}
use native.Mathlib.Decide.{dec_lt}
use native.Mathlib.Omega.{arith}
use lib.Dec.{T, leb, ltb, eqb}
use lib.ListN.{length, get_or, set, length-set}
use lib.Seq.{get_or-set_same, get_or-set_other}
use lib.Ieee.{Float, nan}
use borrow.Rule.Slice.PartMut.{put_mid}
use borrow.Author.Tests.{leb-true, leb-false, ltb-true, ltb-false, eqb-true, eqb-false}
use Rattle.std.specs.List.{All, fold}
use Rattle.std.proofs.Common.{rules}
use Rattle.std.proofs.lemmas.List.{places}
use Rattle.std.proofs.lemmas.List.Elements.{All-head, All-tail}
use Rattle.matrix.specs.Matrix.{Matrix, all_zero}
use Rattle.matrix.specs.Grid.{Grid, Sound, load, mask, Holds}
use Rattle.matrix.specs.Layouts.{square, Fills}
use Rattle.matrix.specs.Rounded.{◌⊕◌, ◌⊗◌, ◌⊘◌, plus_zero}
use Rattle.matrix.proofs.Grids.{load_in, load_is}
use Rattle.matrix.proofs.Places.{digits_within}
use Rattle.matrix.proofs.Squares.{fills_each}
use Rattle.strips.specs.declared.Source.{Source}
use Rattle.strips.specs.inner.Strip.{row_at, Strip, Elsewhere, plus, axpy_of, ratio_of, zero_at}

pub record Partway (s lo hi : ℕ) (v : ℕ → Float) (l₀ : List Float) (i : ℕ) (l : List Float) : Type 0 where
  pub from : lo ≤ i
  pub upto : i ≤ hi
  pub strip : Strip s lo i v l₀ l

pub strip_none : {s lo hi : ℕ} {v : ℕ → Float} {l : List Float} → lo ≤ hi → Partway s lo hi v l lo l
strip_none h = record {
  from = omega arith;
  upto = h;
  strip = record { long = refl; inside = λ i a b. absurd (omega arith); outside = λ p free. refl };
}

-- row i gets what stands there already by v, and is stored
pub strip_more : {s lo hi : ℕ} {v : ℕ → Float} {l₀ : List Float} {i : ℕ} {l : List Float} (x : Float)
    → Partway s lo hi v l₀ i l → i < hi → hi + s ≤ length l₀ → x ≡ v i → Partway s lo hi v l₀ (i + 1) (set l (i + s) x)
strip_more {s} {lo} {hi} {v} {l₀} {i} {l} x d below room is = record {
  from = omega arith;
  upto = omega arith;
  strip = record {
    long = length-set l (i + s) x ∙ d.strip.long;
    inside = inside;
    outside = λ p free. get_or-set_other l (i + s) p x nan (λ e. free i d.from (omega arith) e) ∙ d.strip.outside p (λ r a b. free r a (omega arith));
  };
}
  where
    inside : (r : ℕ) → lo ≤ r → r < i + 1 → row_at (set l (i + s) x) s r ≡ v r
    inside r from upto =
        ⊎_elim
        (λ (same : r ≡ i). subst (λ (r : ℕ). row_at (set l (i + s) x) s r ≡ v r) (sym same) (get_or-set_same l (i + s) x nan (let e = d.strip.long in omega arith) ∙ is))
        (λ (less : r < i). get_or-set_other l (i + s) (r + s) x nan (λ e. omega arith) ∙ d.strip.inside r from less)
        (eq-or-lt_of_le {n = r} {m = i} (omega arith))

pub strip_all : {s lo hi : ℕ} {v : ℕ → Float} {l₀ : List Float} {i : ℕ} {l : List Float} → Partway s lo hi v l₀ i l → hi ≤ i → Strip s lo hi v l₀ l
strip_all {s} {lo} {hi} {v} {l₀} {i} {l} d past = subst (λ (k : ℕ). Strip s lo k v l₀ l) (omega arith) d.strip

-- a row that is not done yet
pub strip_ahead : {s lo hi : ℕ} {v : ℕ → Float} {l₀ : List Float} {i : ℕ} {l : List Float} → Partway s lo hi v l₀ i l → row_at l s i ≡ row_at l₀ s i
strip_ahead {s} {i = i} d = d.strip.outside (i + s) (λ r a b e. omega arith)

-- a row of another column
pub strip_apart : {to lo hi m : ℕ} {v : ℕ → Float} {l₀ l : List Float} (s : Source) → Strip to lo m v l₀ l → m ≤ hi → Elsewhere lo hi to l₀ s
    → (i : ℕ) → lo ≤ i → i < hi → row_at l s.start i ≡ row_at l₀ s.start i
strip_apart {to} {lo} {hi} {m} s strip upto side i from below = strip.outside (i + s.start) (λ k a b e. off k a b e side.beside)
  where
    off : (k : ℕ) → lo ≤ k → k < m → i + s.start ≡ k + to → ((hi + s.start ≤ lo + to) ⊎ (hi + to ≤ lo + s.start)) → ⊥
    off k a b e (inl before) = omega arith
    off k a b e (inr after) = omega arith

-- ---- strips that meet

pub strip_nothing : {s lo : ℕ} {v : ℕ → Float} {l : List Float} → Strip s lo lo v l l
strip_nothing {s} {lo} {v} {l} = (strip_none {s = s} {lo = lo} {hi = lo} {v = v} {l = l} (omega arith)).strip

-- the same rows written again
pub strip_then : {s lo hi : ℕ} {v w : ℕ → Float} {l₀ l l' : List Float} → Strip s lo hi v l₀ l → Strip s lo hi w l l' → Strip s lo hi w l₀ l'
strip_then p q = record { long = q.long ∙ p.long; inside = q.inside; outside = λ x free. q.outside x free ∙ p.outside x free }

pub strip_as : {s lo hi : ℕ} {v w : ℕ → Float} {l₀ l : List Float} → Strip s lo hi v l₀ l → ((i : ℕ) → lo ≤ i → i < hi → v i ≡ w i) → Strip s lo hi w l₀ l
strip_as p same = record { long = p.long; inside = λ i a b. p.inside i a b ∙ same i a b; outside = p.outside }

-- the column's start under its other name
pub strip_at : {s s' lo hi : ℕ} {v : ℕ → Float} {l₀ l : List Float} → s ≡ s' → Strip s lo hi v l₀ l → Strip s' lo hi v l₀ l
strip_at {lo = lo} {hi = hi} {v = v} {l₀ = l₀} {l = l} is strip = subst (λ (s : ℕ). Strip s lo hi v l₀ l) is strip

pub strip_join : {s lo mid hi : ℕ} {v : ℕ → Float} {l₀ l l' : List Float} → lo ≤ mid → mid ≤ hi → Strip s lo mid v l₀ l → Strip s mid hi v l l' → Strip s lo hi v l₀ l'
strip_join {s} {lo} {mid} {hi} {v} {l₀} {l} {l'} from upto p q = record {
  long = q.long ∙ p.long;
  inside = λ i a b. pick i a b (ltb i mid) refl;
  outside = λ x free. q.outside x (λ i a b. free i (omega arith) b) ∙ p.outside x (λ i a b. free i a (omega arith));
}
  where
    pick : (i : ℕ) → lo ≤ i → i < hi → (b : Bool) → ltb i mid ≡ b → row_at l' s i ≡ v i
    pick i a b true e = let under : i < mid = ltb-true i mid e in q.outside (i + s) (λ k x y z. omega arith) ∙ p.inside i a under
    pick i a b false e = q.inside i (ltb-false i mid e) b

-- ---- what the loop stores

-- what another column adds, before and after
pub plus_kept : {to lo hi m : ℕ} {v : ℕ → Float} {l₀ l : List Float} (s : Source) → Strip to lo m v l₀ l → m ≤ hi → Elsewhere lo hi to l₀ s
    → (i : ℕ) → lo ≤ i → i < hi → {x x' : Float} → x ≡ x' → plus l s i x ≡ plus l₀ s i x'
unfolding plus
plus_kept s strip upto apart i from below e = ap₂ (λ (x y : Float). x ⊕ s.scale ⊗ y) e (strip_apart s strip upto apart i from below)

module _ {to lo hi : ℕ} {l₀ : List Float} {i : ℕ} {l : List Float} where
  -- at row i, which is not done yet
  plus_next : {v : ℕ → Float} (s : Source) → Partway to lo hi v l₀ i l → i < hi → Elsewhere lo hi to l₀ s → {x x' : Float} → x ≡ x' → plus l s i x ≡ plus l₀ s i x'
  plus_next s d below apart e = plus_kept s d.strip (omega arith) apart i d.from below e

  -- the multiples of all columns
  fold_next : {v : ℕ → Float} (ss : List Source) → Partway to lo hi v l₀ i l → i < hi → All (Elsewhere lo hi to l₀) ss → {x x' : Float} → x ≡ x'
      → fold (λ x s. plus l s i x) x ss ≡ fold (λ x s. plus l₀ s i x) x' ss
  fold_next [] d below apart e = e
  fold_next (s ∷ ss) d below apart e = fold_next ss d below (All-tail (Elsewhere lo hi to l₀) s ss apart) (plus_next s d below (All-head (Elsewhere lo hi to l₀) s ss apart) e)

  pub axpy_row : (ss : List Source) → Partway to lo hi (axpy_of l₀ to ss) l₀ i l → i < hi → All (Elsewhere lo hi to l₀) ss
      → fold (λ x s. plus l s i x) (row_at l to i) ss ≡ axpy_of l₀ to ss i
  unfolding axpy_of
  axpy_row ss d below apart = fold_next ss d below apart (strip_ahead d)

-- ---- a strip of column j of a grid

module _ {g : Grid} {s lo hi : ℕ} (j : ℕ) {v : ℕ → Float} {l₀ l : List Float} (good : Sound g l₀)
    (here : (i : ℕ) → lo ≤ i → i < hi → T (g.inside i j)) (place : (i : ℕ) → lo ≤ i → i < hi → g.place i j ≡ i + s) where
  -- what stands in M is the strip's rows, and what stood before elsewhere
  pub strip_holds : (M : Matrix) → ((i : ℕ) → lo ≤ i → i < hi → v i ≡ M i j) → ((i c : ℕ) → T (g.inside i c) → (lo ≤ i → i < hi → c ≡ j → ⊥) → load g l₀ i c ≡ M i c)
      → Strip s lo hi v l₀ l → Holds g l₀ l (mask g M)
  strip_holds M written kept strip = record {
    sound = record { fair = good.fair; long = strip.long ∙ good.long };
    cells = load_is g l M (λ i c t. at i c t (leb lo i) (ltb i hi) (eqb c j) refl refl refl);
    kept = λ p free. strip.outside p (λ i a b e. free i j (here i a b) (e ∙ sym (place i a b)));
  }
    where
      other : (i c : ℕ) → T (g.inside i c) → (lo ≤ i → i < hi → c ≡ j → ⊥) → get_or l (g.place i c) nan ≡ M i c
      other i c t off =
          strip.outside (g.place i c)
          (λ k a b e.
          let same : g.place i c ≡ g.place k j = e ∙ sym (place k a b) in
          let row : i ≡ k = good.fair.row i c k j t (here k a b) same in
          off (omega arith) (omega arith) (good.fair.column i c k j t (here k a b) same))
          ∙ sym (load_in g l₀ i c t)
          ∙ kept i c t off

      at : (i c : ℕ) → T (g.inside i c) → (a b e : Bool) → leb lo i ≡ a → ltb i hi ≡ b → eqb c j ≡ e → get_or l (g.place i c) nan ≡ M i c
      at i c t true true true p q r =
          let from : lo ≤ i = leb-true lo i p in
          let below : i < hi = ltb-true i hi q in
          subst (λ (c : ℕ). get_or l (g.place i c) nan ≡ M i c) (sym (eqb-true c j r))
          (ap (λ (k : ℕ). get_or l k nan) (place i from below) ∙ strip.inside i from below ∙ written i from below)
      at i c t false b e p q r = other i c t (λ from below same. omega (arith, leb-false lo i p))
      at i c t true false e p q r = other i c t (λ from below same. omega (arith, ltb-false i hi q))
      at i c t true true false p q r = other i c t (λ from below same. eqb-false c j r same)

-- ---- a part of the slice that is written as a whole

pub strip_part : {s lo hi : ℕ} {v : ℕ → Float} (l part : List Float) → lo ≤ hi → hi + s ≤ length l → length part ≡ hi - lo
    → ((i : ℕ) → lo ≤ i → i < hi → get_or part (i - lo) nan ≡ v i) → Strip s lo hi v l (put_mid (lo + s) (hi + s - (lo + s)) l part)
strip_part {s} {lo} {hi} {v} l part upto room long is = record {
  long = search (rules, places);
  inside = λ i a b. let at : i + s - (lo + s) ≡ i - lo = omega arith in let here : get_or (put_mid (lo + s) (hi + s - (lo + s)) l part) (i + s) nan ≡ get_or part (i + s - (lo + s)) nan = search (rules, places) in
      here ∙ ap (λ (k : ℕ). get_or part k nan) at ∙ is i a b;
  outside = λ p free. kept p free (dec_lt p (lo + s)) (dec_lt p (hi + s));
}
  where
    kept : (p : ℕ) → ((i : ℕ) → lo ≤ i → i < hi → p ≡ i + s → ⊥) → Dec (p < lo + s) → Dec (p < hi + s) → get_or (put_mid (lo + s) (hi + s - (lo + s)) l part) p nan ≡ get_or l p nan
    kept p free (yes before) e = search (rules, places)
    kept p free (no from) (yes below) = absurd (free (p - s) (omega (arith, from)) (omega arith) (omega (arith, from)))
    kept p free (no from) (no past) = let a : lo + s ≤ p = omega (arith, from) in let b : hi + s ≤ p = omega (arith, past) in search (rules, places)

-- ---- slices that are cleared

pub cleared : {l₀ l : List Float} {c : ℕ} → Strip 0 0 c zero_at l₀ l → (q : ℕ) → q < c → get_or l q nan ≡ plus_zero
cleared {l = l} w q below = ap (λ (k : ℕ). get_or l k nan) (let start : q ≡ q + 0 = omega arith in start) ∙ w.inside q (omega arith) below

pub cleared_square : {n : ℕ} {l₀ l : List Float} → length l₀ ≡ n * n → Strip 0 0 (n * n) zero_at l₀ l → Fills n l (mask (square n) all_zero)
cleared_square {n} {l = l} long clear = fills_each n l all_zero (clear.long ∙ long) (λ i k row column. cleared clear (i + k * n) (digits_within n n i k row column))
