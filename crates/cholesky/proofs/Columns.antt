-- The laws of the engine's work on one column. Assumes nothing.
use mathlib.Core.Path.{◌≡◌, refl, sym, ◌∙◌, ap, ap₂, subst}
use mathlib.Core.List.{List, [], ◌∷◌}
use mathlib.Core.Logic.{inl}
use Prim.Native.Nat.{ℕ, zero, suc, ◌+◌, ◌-◌, ◌≤◌, ◌<◌}
use native.Mathlib.Omega.{arith}
use lib.ListN.{length, get_or}
use lib.Ieee.{Float, nan, neg}
use Rattle.matrix.specs.declared.Layout.{Layout}
use Rattle.matrix.specs.Matrix.{Matrix}
use Rattle.matrix.specs.Loop.{for}
use Rattle.matrix.specs.Grid.{Sound, load}
use Rattle.matrix.specs.Layouts.{start_of, lower, Laid}
use Rattle.matrix.specs.Rounded.{◌⊕◌, ◌⊗◌, ◌⊘◌}
use Rattle.matrix.proofs.Loops.{for_none, for_same, for_join}
use Rattle.matrix.proofs.Triangles.{columns_apart}
use Rattle.matrix.proofs.Places.{lower_at, lower_within}
use Rattle.strips.specs.declared.Source.{Source}
use Rattle.cholesky.specs.Column.{less, updated, divided, part}
use Rattle.cholesky.specs.Run.{updates, below}
use Rattle.strips.specs.inner.Strip.{row_at, Strip, Elsewhere, plus, axpy_of, ratio_of}
use Rattle.strips.proofs.Strips.{strip_at}
use Rattle.strips.proofs.Gathering.{fold_for}
use Rattle.cholesky.specs.Leaves.{Leaves}
use Rattle.cholesky.specs.inner.Engine.{Reach, Sourced, less_columns}
use Rattle.cholesky.proofs.Parts.{Where, within, above, beside, where?, part_in, part_above, part_beside, Agree, agree_same, part_agree, leaves_agree, leaves_none, leaves_as, leaves_then, strip_leaves}

-- ---- places

pub column_inside : {y : Layout} {l : List Float} {j to : ℕ} → Laid y l → j < y.order → to ≡ start_of y j → y.order + to ≤ length l
column_inside {y} {l} {j} laid lt is = omega (arith, lower_within y l (y.order - 1) j laid (omega arith) (omega arith))

pub source_elsewhere : {y : Layout} {l : List Float} {r j k to : ℕ} {s : Source} → Laid y l → Reach y r j → k < j → Sourced y l j k s → to ≡ start_of y j → Elsewhere r y.order to l s
source_elsewhere {y} {l} {r} {j} {k} {to} {s} laid reach before is at = record {
  within = column_inside laid (omega arith) is.start;
  beside = inl (let apart = columns_apart y k j before (omega (arith, laid.roomy.ordered, reach.column)) in omega (arith, is.start, reach.from, laid.roomy.ordered));
}

-- four columns from k on
pub sourced_four : {y : Layout} {l : List Float} {j k : ℕ} {s t u v : Source} → Sourced y l j k s → Sourced y l j (k + 1) t → Sourced y l j (k + 2) u → Sourced y l j (k + 3) v
    → (c : ℕ) (x : Source) → c < 4 → Sourced y l j (k + c) (get_or (s ∷ t ∷ u ∷ v ∷ []) c x)
sourced_four {y} {l} {j} {k} {s} first second third fourth zero x below = let here : k ≡ k + 0 = omega arith in subst (λ (n : ℕ). Sourced y l j n s) here first
sourced_four first second third fourth (suc zero) x below = second
sourced_four first second third fourth (suc (suc zero)) x below = third
sourced_four first second third fourth (suc (suc (suc zero))) x below = fourth
sourced_four first second third fourth (suc (suc (suc (suc c)))) x below = absurd (omega arith)

-- column k on its way to column j
column_on : Layout → List Float → ℕ → ℕ → Source
column_on y l j k = record { start = start_of y k; scale = neg (load (lower y) l j k) }

sourced_is : {y : Layout} {l : List Float} {j k : ℕ} {s : Source} → Sourced y l j k s → s ≡ column_on y l j k
unfolding column_on
sourced_is is = ap₂ (λ (start : ℕ) (scale : Float). record { start = start; scale = scale }) is.start is.scale

-- ---- some columns taken off, all columns, the division

module _ (y : Layout) (j : ℕ) (l₀ : List Float) where
  -- row i of column j, as the strip reads it
  given : (to : ℕ) → to ≡ start_of y j → (i : ℕ) → j ≤ i → i < y.order → row_at l₀ to i ≡ load (lower y) l₀ i j
  given to is i a b = ap (λ (s : ℕ). get_or l₀ (i + s) nan) is ∙ sym (lower_at y l₀ i j a b)

  -- what an earlier column adds is what it takes
  plus_less : (k : ℕ) (s : Source) → k < j → Sourced y l₀ j k s → (i : ℕ) (x x' : Float) → j ≤ i → i < y.order → x ≡ x' → plus l₀ s i x ≡ less (load (lower y) l₀) i j k x'
  unfolding plus less
  plus_less k s before is i x x' a b e =
      ap₂ ◌⊕◌ e (ap₂ ◌⊗◌ is.scale (ap (λ (s : ℕ). get_or l₀ (i + s) nan) is.start ∙ sym (lower_at y l₀ i k (omega arith) b)))

module _ {y : Layout} {r j : ℕ} {l₀ l : List Float} (laid : Laid y l₀) where
  -- a strip of column j whose rows are v
  part_leaves : (from : j ≤ r) (to : ℕ) (v w : ℕ → Float) → to ≡ start_of y j → Strip to r y.order v l₀ l → ((i : ℕ) → j ≤ i → i < y.order → v i ≡ w i)
      → Leaves y l₀ l (part r j w (load (lower y) l₀))
  part_leaves from to v w is strip same =
      leaves_as (strip_leaves y r j v l₀ l laid.sound from (strip_at is strip))
      (part_agree r j v w agree_same (λ i a b. same i (omega arith) b))

  pub subtract_leaves : (k w : ℕ) {to : ℕ} (ss : List Source) → Reach y r j → k + w ≤ j → to ≡ start_of y j → length ss ≡ w → ((c : ℕ) (s : Source) → c < w → Sourced y l₀ j (k + c) (get_or ss c s))
      → Strip to r y.order (axpy_of l₀ to ss) l₀ l → Leaves y l₀ l (part r j (less_columns (load (lower y) l₀) j k (k + w)) (load (lower y) l₀))
  unfolding axpy_of less_columns column_on
  subtract_leaves k w {to} ss reach before is long each strip =
      part_leaves reach.from to (axpy_of l₀ to ss) (less_columns (load (lower y) l₀) j k (k + w)) is strip (λ i a b.
      fold_for (column_on y l₀ j) (λ s x. plus l₀ s i x) ss k (row_at l₀ to i) (λ c s below. sourced_is (each c s (omega arith)))
      ∙ ap (λ (hi : ℕ). for k hi (λ c. plus l₀ (column_on y l₀ j c) i) (row_at l₀ to i)) (omega arith)
      ∙ for_same k (k + w) (λ c. plus l₀ (column_on y l₀ j c) i) (less (load (lower y) l₀) i j) (row_at l₀ to i) (λ c x low high.
      plus_less y j l₀ c (column_on y l₀ j c) (omega arith) (record { start = refl; scale = refl }) i x x a b refl)
      ∙ ap (for k (k + w) (less (load (lower y) l₀) i j)) (given y j l₀ to is i a b))

  pub divide_leaves : {at : ℕ} {d : Float} → j ≤ r → at ≡ start_of y j → d ≡ load (lower y) l₀ j j
      → Strip at r y.order (ratio_of l₀ at d) l₀ l → Leaves y l₀ l (below r j (load (lower y) l₀))
  unfolding ratio_of below divided
  divide_leaves {at} {d} from at-is d-is strip =
      part_leaves from at (ratio_of l₀ at d) (divided (load (lower y) l₀) j (load (lower y) l₀ j j)) at-is strip (λ i a b. ap₂ ◌⊘◌ (given y j l₀ at at-is i a b) d-is)

less_same : (M N : Matrix) (i j k : ℕ) (x : Float) → M j k ≡ N j k → M i k ≡ N i k → less M i j k x ≡ less N i j k x
unfolding less
less_same M N i j k x pivot row = ap₂ (λ (p q : Float). x ⊕ neg p ⊗ q) pivot row

-- the first k columns are taken off
pub record Updating (y : Layout) (r j : ℕ) (l₀ : List Float) (k : ℕ) (l : List Float) : Type 0 where
  pub upto : k ≤ j
  pub leaves : Leaves y l₀ l (part r j (updated (load (lower y) l₀) j k) (load (lower y) l₀))

pub updating_none : {y : Layout} {r j : ℕ} {l : List Float} → Sound (lower y) l → Updating y r j l 0 l
unfolding updated
updating_none {y} {r} {j} {l} good = record { upto = omega arith; leaves = leaves_as (leaves_none good) (record { at = λ i c le lt. cell i c (where? r j i c) }) }
  where
    M : Matrix
    M = load (lower y) l

    cell : (i c : ℕ) → Where r j i c → M i c ≡ part r j (updated M j 0) M i c
    cell i c (within from this) = subst (λ (c : ℕ). M i c ≡ part r j (updated M j 0) M i c) (sym this) (sym (for_none 0 (less M i j) (M i j)) ∙ sym (part_in r j (updated M j 0) M i from))
    cell i c (above h) = sym (part_above r j (updated M j 0) M i c h)
    cell i c (beside h) = sym (part_beside r j (updated M j 0) M i c h)

pub updating_more : {y : Layout} {r j : ℕ} {l₀ : List Float} {k : ℕ} {l l' : List Float} (w : ℕ) → Updating y r j l₀ k l → Reach y r j → k + w ≤ j
    → Leaves y l l' (part r j (less_columns (load (lower y) l) j k (k + w)) (load (lower y) l)) → Updating y r j l₀ (k + w) l'
unfolding less_columns updated
updating_more {y} {r} {j} {l₀} {k} {l} {l'} w u reach room step =
    record { upto = room; leaves = leaves_then u.leaves step (record { at = λ i c le lt. cell i c le lt (where? r j i c) }) }
  where
    next : ℕ
    next = k + w

    M : Matrix
    M = load (lower y) l₀

    L : Matrix
    L = load (lower y) l

    was : Agree y.order L (part r j (updated M j k) M)
    was = leaves_agree u.leaves

    -- another column than j
    other : (i c : ℕ) → c ≤ i → i < y.order → (c ≡ j → ⊥) → L i c ≡ M i c
    other i c le lt apart = was.at i c le lt ∙ part_beside r j (updated M j k) M i c apart

    row : (i : ℕ) → r ≤ i → i < y.order → less_columns L j k next i ≡ updated M j next i
    row i from lt =
        let low = reach.from in
        for_same k next (less L i j) (less M i j) (L i j) (λ c x a b. less_same L M i j c x (other j c (omega arith) reach.column (λ e. omega arith)) (other i c (omega arith) lt (λ e. omega arith)))
        ∙ ap (for k next (less M i j)) (was.at i j (omega arith) lt ∙ part_in r j (updated M j k) M i from)
        ∙ for_join 0 k next (less M i j) (M i j) (omega arith) (omega arith)

    cell : (i c : ℕ) → c ≤ i → i < y.order → Where r j i c → part r j (less_columns L j k next) L i c ≡ part r j (updated M j next) M i c
    cell i c le lt (within from this) =
        subst (λ (c : ℕ). part r j (less_columns L j k next) L i c ≡ part r j (updated M j next) M i c) (sym this)
        (part_in r j (less_columns L j k next) L i from ∙ row i from lt ∙ sym (part_in r j (updated M j next) M i from))
    cell i c le lt (above h) = part_above r j (less_columns L j k next) L i c h ∙ was.at i c le lt ∙ part_above r j (updated M j k) M i c h ∙ sym (part_above r j (updated M j next) M i c h)
    cell i c le lt (beside h) = part_beside r j (less_columns L j k next) L i c h ∙ other i c le lt h ∙ sym (part_beside r j (updated M j next) M i c h)

-- the same count of columns and the same slice, under other names
pub updating_at : {y : Layout} {r j : ℕ} {l₀ : List Float} {k k' : ℕ} {l l' : List Float} → k ≡ k' → l' ≡ l → Updating y r j l₀ k l → Updating y r j l₀ k' l'
updating_at count same u = rw (← count, same) u

pub updating_all : {y : Layout} {r j : ℕ} {l₀ : List Float} {k : ℕ} {l : List Float} → Updating y r j l₀ k l → j ≤ k → Leaves y l₀ l (updates r j (load (lower y) l₀))
unfolding updates
updating_all {y} {r} {j} {l₀} {k} {l} u past = subst (λ (k : ℕ). Leaves y l₀ l (part r j (updated (load (lower y) l₀) j k) (load (lower y) l₀))) (omega arith) u.leaves
