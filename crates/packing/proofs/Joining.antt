-- The parts of a batch, column by column: what stands where, and that nothing of the buffer is left as it was.
--     row_next, new_within, new_small, column_room   where rows are read and written
--     joined_new, joined_old                         an entry of the joined matrix
--     Joining, joining_more, joining_all             the columns before j are written: the invariant of the loop
-- Assumes nothing.
use mathlib.Core.Path.{◌≡◌, refl, sym, ◌∙◌, ap, subst}
use mathlib.Core.List.{List}
use mathlib.Core.Logic.{⊎_elim}
use Prim.Native.Nat.{ℕ, ◌+◌, ◌≤◌, ◌<◌}
use native.Mathlib.Nat.{eq-or-lt_of_le}
use native.Mathlib.Decide.{dec_lt}
use native.Mathlib.Omega.{arith}
use lib.ListN.{length, get_or, get_or-eq_default}
use lib.Ieee.{Float, nan}
use borrow.Author.Tests.{lt-ltb, le-ltb}
use Rattle.matrix.specs.Grid.{Fair, mask, Free, Holds}
use Rattle.matrix.specs.Layouts.{packed, Roomy, entries_of, start_of, size_of, lower, place_in}
use Rattle.matrix.proofs.Triangles.{entries_next, entries_rise, packed_column, packed_entry}
use Rattle.matrix.proofs.Places.{in_lower_law, lower_low, lower_under, lower_at, lower_fair, entries_small}
use Rattle.matrix.proofs.Grids.{load_is}
use Rattle.strips.specs.inner.Strip.{Strip}
use Rattle.packing.specs.Joined.{row_start, new_row, joined}
use Rattle.packing.specs.inner.Sizes.{NewRows}

-- ---- where rows are read and written

-- the next row
pub row_next : (m i : ℕ) → m ≤ i → row_start m (i + 1) ≡ row_start m i + (i + 1)
unfolding row_start
row_next m i from = let next = entries_next i in let rise = entries_rise m i from in omega arith

pub new_within : {m n : ℕ} {rows fresh : List Float} (i j : ℕ) → NewRows m n rows fresh → m ≤ i → i < n → j ≤ i → row_start m i + j < length rows
unfolding row_start
new_within {m} {n} i j sizes from below low =
    let next = entries_next i in
    let rise = entries_rise m i from in
    let upto = entries_rise (i + 1) n (omega arith) in
    omega (arith, sizes.long)

-- places up to the end of the rows, and one column more, are small
pub new_small : {m n : ℕ} {rows fresh : List Float} (i j : ℕ) → NewRows m n rows fresh → i ≤ n → j < n → row_start m i + j ≤ 2097152
unfolding row_start
new_small {m} {n} i j sizes upto below = let small = entries_small i (omega (arith, sizes.small)) in omega (arith, sizes.small)

pub column_room : {m n : ℕ} {rows fresh : List Float} {j to : ℕ} → NewRows m n rows fresh → j < n → to ≡ start_of (packed n) j → n + to ≤ length fresh
column_room {n = n} {j = j} sizes below is = let inside = packed_column n j below in omega (arith, sizes.room, is)

-- ---- the joined matrix

pub joined_new : (m : ℕ) (old rows : List Float) (i j : ℕ) → m ≤ i → new_row m rows j i ≡ joined m old rows i j
unfolding joined
joined_new m old rows i j from = rw (le-ltb i m from) refl

pub joined_old : (m : ℕ) (old rows : List Float) (i j s : ℕ) → s ≡ start_of (packed m) j → j ≤ i → i < m → get_or old (i + s) nan ≡ joined m old rows i j
unfolding joined
joined_old m old rows i j s is low below = rw (lt-ltb i m below) (ap (λ (s : ℕ). get_or old (i + s) nan) is ∙ sym (lower_at (packed m) old i j low below))

-- ---- column by column

pub record Joining (m n : ℕ) (old rows fresh₀ : List Float) (j : ℕ) (fresh : List Float) : Type 0 where
  pub upto : j ≤ n
  pub long : length fresh ≡ length fresh₀
  pub each : (i c : ℕ) → c ≤ i → i < n → c < j → get_or fresh (i + start_of (packed n) c) nan ≡ joined m old rows i c

pub packed_roomy : (n : ℕ) → n ≤ 1024 → Roomy (packed n)
packed_roomy n small = record { ordered = omega arith; small = small }

pub joining_more : {m n : ℕ} {old rows fresh₀ : List Float} {j : ℕ} {fresh fresh' : List Float} → n ≤ 1024 → Joining m n old rows fresh₀ j fresh → j < n
    → Strip (start_of (packed n) j) j n (λ i. joined m old rows i j) fresh fresh' → Joining m n old rows fresh₀ (j + 1) fresh'
unfolding lower place_in
joining_more {m} {n} {old} {rows} {j = j} {fresh} {fresh'} small so below strip = record {
  upto = omega arith;
  long = strip.long ∙ so.long;
  each = λ i c low inside before.
      ⊎_elim
      (λ (same : c ≡ j). subst (λ (c : ℕ). get_or fresh' (i + start_of (packed n) c) nan ≡ joined m old rows i c) (sym same) (strip.inside i (omega arith) inside))
      (λ (less : c < j).
      strip.outside (i + start_of (packed n) c)
      (λ k from upto e.
      let apart : c ≡ j = fair.column i c k j (in_lower_law (packed n) i c low inside) (in_lower_law (packed n) k j from upto) e in omega arith)
      ∙ so.each i c low inside less)
      (eq-or-lt_of_le {n = c} {m = j} (omega arith));
}
  where
    fair : Fair (lower (packed n))
    fair = lower_fair (packed n) (packed_roomy n small)

-- all columns: every place of the buffer is an entry's, so nothing is left as it was
pub joining_all : {m n : ℕ} {old rows fresh₀ : List Float} {j : ℕ} {fresh : List Float} → n ≤ 1024 → length fresh₀ ≡ entries_of n → Joining m n old rows fresh₀ j fresh → n ≤ j
    → Holds (lower (packed n)) fresh₀ fresh (mask (lower (packed n)) (joined m old rows))
unfolding lower place_in size_of
joining_all {m} {n} {old} {rows} {fresh₀} {j} {fresh} small room so past = record {
  sound = record { fair = lower_fair (packed n) (packed_roomy n small); long = so.long ∙ room };
  cells = load_is (lower (packed n)) fresh (joined m old rows) (λ i c t.
      so.each i c (lower_under (packed n) i c t) (lower_low (packed n) i c t) (let low = lower_under (packed n) i c t in let inside = lower_low (packed n) i c t in omega arith));
  kept = λ p free. kept p free (dec_lt p (entries_of n));
}
  where
    kept : (p : ℕ) → Free (lower (packed n)) p → Dec (p < entries_of n) → get_or fresh p nan ≡ get_or fresh₀ p nan
    kept p free (yes below) =
        let at = packed_entry n p below in
        absurd (free at.row at.column (in_lower_law (packed n) at.row at.column at.low at.inside) at.place)
    kept p free (no beyond) =
        let long : length fresh ≡ entries_of n = so.long ∙ room in
        get_or-eq_default fresh nan (omega (arith, beyond)) ∙ sym (get_or-eq_default fresh₀ nan (omega (arith, beyond)))
