-- A part of a column replaced, entry by entry, and two matrices that agree on the lower triangle of the first n rows.
-- Assumes nothing.
use mathlib.Core.Path.{◌≡◌, refl, sym, ◌∙◌, ap, ap₂, subst}
use mathlib.Core.Bool.{Bool, true, false, cond, ◌&&◌}
use mathlib.Core.List.{List}
use Prim.Native.Nat.{ℕ, ◌≤◌, ◌<◌}
use native.Mathlib.Omega.{arith}
use lib.Dec.{T, eqb, leb}
use lib.Ieee.{Float, neg}
use borrow.Author.Tests.{le-leb, lt-leb, leb-true, leb-false, eq-eqb, eqb-true, eqb-false, ne_eqb}
use Rattle.matrix.specs.declared.Layout.{Layout}
use Rattle.matrix.specs.Matrix.{Matrix, entry}
use Rattle.matrix.specs.Loop.{for}
use Rattle.matrix.specs.Grid.{Sound, load, mask}
use Rattle.matrix.specs.Layouts.{start_of, lower, Laid}
use Rattle.matrix.specs.Rounded.{◌⊕◌, ◌⊗◌}
use Rattle.matrix.proofs.Grids.{load_in, load_is, mask_in, same_cells}
use Rattle.matrix.proofs.Loops.{for_same}
use Rattle.matrix.proofs.Places.{in_lower_law, lower_place_law, lower_low, lower_under}
use Rattle.matrix.proofs.Sizes.{laid_after}
use Rattle.cholesky.specs.Column.{less, updated, part}
use Rattle.strips.specs.inner.Strip.{Strip}
use Rattle.strips.proofs.Strips.{strip_holds}
use Rattle.cholesky.specs.Leaves.{Leaves}

-- ---- a part replaced

module _ (r j : ℕ) (v : ℕ → Float) (M : Matrix) where
  pub part_in : (i : ℕ) → r ≤ i → part r j v M i j ≡ v i
  unfolding part
  part_in i from = rw (le-leb r i from, eq-eqb j j refl)

  pub part_above : (i c : ℕ) → i < r → part r j v M i c ≡ M i c
  unfolding part
  part_above i c above = rw (lt-leb r i above)

  pub part_beside : (i c : ℕ) → (c ≡ j → ⊥) → part r j v M i c ≡ M i c
  unfolding part
  part_beside i c beside = pick (leb r i)
    where
      pick : (b : Bool) → cond (b && eqb c j) (v i) (M i c) ≡ M i c
      pick true = rw (ne_eqb c j beside)
      pick false = refl

-- (i, c) is in the part, above it, or in another column
pub data Where (r j i c : ℕ) : Type 0 where
  within : r ≤ i → c ≡ j → Where r j i c
  above : i < r → Where r j i c
  beside : (c ≡ j → ⊥) → Where r j i c

pub where? : (r j i c : ℕ) → Where r j i c
where? r j i c = pick (leb r i) (eqb c j) refl refl
  where
    pick : (a b : Bool) → leb r i ≡ a → eqb c j ≡ b → Where r j i c
    pick true true e f = within (leb-true r i e) (eqb-true c j f)
    pick true false e f = beside (eqb-false c j f)
    pick false b e f = above (leb-false r i e)

-- ---- agreement

pub record Agree (n : ℕ) (M N : Matrix) : Type 0 where
  pub at : (i j : ℕ) → j ≤ i → i < n → M i j ≡ N i j

pub agree_same : {n : ℕ} {M : Matrix} → Agree n M M
agree_same = record { at = λ i j le lt. refl }

pub part_agree : {n : ℕ} {M N : Matrix} (r j : ℕ) (v w : ℕ → Float) → Agree n M N → ((i : ℕ) → r ≤ i → i < n → v i ≡ w i) → Agree n (part r j v M) (part r j w N)
part_agree {n} {M} {N} r j v w same each = record { at = λ i c le lt. cell i c le lt (where? r j i c) }
  where
    cell : (i c : ℕ) → c ≤ i → i < n → Where r j i c → part r j v M i c ≡ part r j w N i c
    cell i c le lt (within from this) = subst (λ (c : ℕ). part r j v M i c ≡ part r j w N i c) (sym this) (part_in r j v M i from ∙ each i from lt ∙ sym (part_in r j w N i from))
    cell i c le lt (above h) = part_above r j v M i c h ∙ same.at i c le lt ∙ sym (part_above r j w N i c h)
    cell i c le lt (beside h) = part_beside r j v M i c h ∙ same.at i c le lt ∙ sym (part_beside r j w N i c h)

-- row i of column j after k columns looks at rows i and j alone
pub updated_agree : (M N : Matrix) (j k i : ℕ) → M i j ≡ N i j → ((c : ℕ) → c < k → M i c ≡ N i c) → ((c : ℕ) → c < k → M j c ≡ N j c) → updated M j k i ≡ updated N j k i
unfolding updated less
updated_agree M N j k i given row pivot =
    for_same 0 k (less M i j) (less N i j) (M i j) (λ c x from upto. ap₂ (λ (p q : Float). x ⊕ neg p ⊗ q) (pivot c upto) (row c upto))
    ∙ ap (for 0 k (less N i j)) given

pub entry_agree : {n : ℕ} {M N : Matrix} (i j : ℕ) {v w : Float} → Agree n M N → v ≡ w → Agree n (entry M i j v) (entry N i j w)
unfolding entry
entry_agree {M = M} {N = N} i j {v} {w} same e = record { at = λ r c le lt. ap₂ (cond (eqb r i && eqb c j)) e (same.at r c le lt) }

-- ---- agreement with what a slice holds

module _ (y : Layout) where
  pub agree_mask : {M N : Matrix} → Agree y.order M N → mask (lower y) M ≡ mask (lower y) N
  agree_mask {M} {N} same = same_cells (lower y) M N (λ i j t. same.at i j (lower_under y i j t) (lower_low y i j t))

  pub mask_agree : (M : Matrix) → Agree y.order (mask (lower y) M) M
  mask_agree M = record { at = λ i j le lt. mask_in (lower y) M i j (in_lower_law y i j le lt) }

pub leaves_agree : {y : Layout} {l₀ l : List Float} {M : Matrix} → Leaves y l₀ l M → Agree y.order (load (lower y) l) M
leaves_agree {y} {M = M} h = record { at = λ i j le lt. ap (λ (N : Matrix). N i j) h.holds.cells ∙ (mask_agree y M).at i j le lt }

load_mask : (y : Layout) (l : List Float) → load (lower y) l ≡ mask (lower y) (load (lower y) l)
load_mask y l = load_is (lower y) l (load (lower y) l) (λ i j t. sym (load_in (lower y) l i j t))

pub agree_load : (y : Layout) (l l' : List Float) → Agree y.order (load (lower y) l) (load (lower y) l') → load (lower y) l ≡ load (lower y) l'
agree_load y l l' same = load_mask y l ∙ agree_mask y same ∙ sym (load_mask y l')

pub leaves_none : {y : Layout} {l : List Float} → Sound (lower y) l → Leaves y l l (load (lower y) l)
leaves_none {y} {l} good = record { holds = record { sound = good; cells = load_mask y l; kept = λ p free. refl } }

pub leaves_laid : {y : Layout} {l₀ l : List Float} {M : Matrix} → Laid y l₀ → Leaves y l₀ l M → Laid y l
leaves_laid laid step = laid_after laid step.holds

-- the matrix under another name
pub leaves_as : {y : Layout} {l₀ l : List Float} {M N : Matrix} → Leaves y l₀ l M → Agree y.order M N → Leaves y l₀ l N
leaves_as {y} h same = record { holds = record { sound = h.holds.sound; cells = h.holds.cells ∙ agree_mask y same; kept = h.holds.kept } }

-- a step after what was done
pub leaves_then : {y : Layout} {l₀ l l' : List Float} {M N P : Matrix} → Leaves y l₀ l M → Leaves y l l' N → Agree y.order N P → Leaves y l₀ l' P
leaves_then {y} before step same = record {
  holds = record {
    sound = step.holds.sound;
    cells = step.holds.cells ∙ agree_mask y same;
    kept = λ p free. step.holds.kept p free ∙ before.holds.kept p free;
  };
}

-- a strip of column j
pub strip_leaves : (y : Layout) (r j : ℕ) (v : ℕ → Float) (l₀ l : List Float) → Sound (lower y) l₀ → j ≤ r → Strip (start_of y j) r y.order v l₀ l
    → Leaves y l₀ l (part r j v (load (lower y) l₀))
strip_leaves y r j v l₀ l good from strip = record {
  holds =
      strip_holds j good (λ i a b. in_lower_law y i j (omega arith) b) (λ i a b. lower_place_law y i j)
      (part r j v (load (lower y) l₀)) (λ i a b. sym (part_in r j v (load (lower y) l₀) i a)) (λ i c t off. sym (kept i c t off (where? r j i c))) strip;
}
  where
    kept : (i c : ℕ) → T ((lower y).inside i c) → (r ≤ i → i < y.order → c ≡ j → ⊥) → Where r j i c → part r j v (load (lower y) l₀) i c ≡ load (lower y) l₀ i c
    kept i c t off (within a e) = absurd (off a (lower_low y i c t) e)
    kept i c t off (above h) = part_above r j v (load (lower y) l₀) i c h
    kept i c t off (beside h) = part_beside r j v (load (lower y) l₀) i c h
