-- What an engine that speaks of the grid alone does in one layout, it does in every other.
--     layouts_alike       of slices that are alike come the same answers, and slices that are alike
--     unpacked_alike      the same of a packed slice and a full one, for every promise that speaks of the grid alone
--     unpacks_some        every packed slice can be unpacked
--     packed_same         a packed slice is what it holds
--     works_read          a call that only reads
-- Assumes nothing.
use mathlib.Core.Path.{◌≡◌, refl, sym, ◌∙◌, ap}
use mathlib.Core.List.{List}
use Prim.Native.Nat.{ℕ, ◌*◌, ◌≤◌, ◌<◌}
use native.Mathlib.Omega.{arith}
use lib.ListN.{length, get_or}
use lib.Seq.{ext_get_or}
use lib.Ieee.{Float, nan}
use borrow.Author.Tests.{eq-eqb}
use Rattle.answer.specs.Answer.{Answer, Done, is_done}
use Rattle.answer.proofs.Done.{done_or_refused}
use Rattle.answer.specs.Refusals.{tested}
use Rattle.matrix.specs.declared.Layout.{Layout}
use Rattle.matrix.specs.Matrix.{Matrix}
use Rattle.matrix.specs.Grid.{load, mask}
use Rattle.matrix.specs.Layouts.{full, packed, entries_of, size_of, lower}
use Rattle.matrix.specs.Sizes.{sizes_of}
use Rattle.matrix.specs.Engines.{Engine, Works, GridAlone, Alike, Unpacks}
use Rattle.matrix.proofs.Grids.{holds_none, mask_load}
use Rattle.matrix.proofs.Triangles.{packed_entry}
use Rattle.matrix.proofs.Places.{lower_low, lower_left, lower_fair, lower_at}
use Rattle.matrix.proofs.Sizes.{done_fits, laid_fits, full_roomy}
use Rattle.matrix.proofs.Slices.{listed, listed_length, overlaid, overlaid_holds}

-- ---- the same engine on two layouts

-- the tests of size ask a slice for its length alone
same_sizes : (y : Layout) (m : ℕ) (l l' : List Float) → length l' ≡ length l → sizes_of y m l' ≡ sizes_of y m l
same_sizes y m l l' long = rw long refl

module _ {Back : Type 0} {engine : Engine Back} {m : ℕ} where
  -- a call leaves a slice of the same length
  works_long : {y : Layout} {l l' : List Float} {back : Back} → Works engine y m l back l' → length l' ≡ length l
  works_long {y} {l} w =
      done_or_refused (sizes_of y m l)
      (λ done. (w.leaves.done done).sound.long ∙ sym (laid_fits {l = l} (done_fits y m (length l) Done done)).sound.long)
      (λ refused. ap length (w.leaves.refused refused))

  pub layouts_alike : {y z : Layout} {l l' k k' : List Float} {back back' : Back} → Alike y z m l k → Works engine y m l back l' → Works engine z m k back' k'
      → (back ≡ back') × Alike y z m l' k'
  layouts_alike {y} {z} {l} {l'} {k} {k'} same v w = (
    v.comes ∙ together engine.back ∙ sym w.comes,
    record {
      order = same.order;
      sizes = same_sizes y m l l' (works_long v) ∙ same.sizes ∙ sym (same_sizes z m k k' (works_long w));
      cells =
          done_or_refused (sizes_of y m l)
          (λ done.
          (v.leaves.done done).cells
          ∙ together (λ s. engine.cells)
          ∙ sym (w.leaves.done (ap is_done (sym same.sizes) ∙ done)).cells)
          (λ refused.
          ap (load (lower y)) (v.leaves.refused refused)
          ∙ same.cells
          ∙ ap (load (lower z)) (sym (w.leaves.refused (ap is_done (sym same.sizes) ∙ refused))));
    },
  )
    where
      together : {X : Type 0} (f : Answer → ℕ → Matrix → X) → f (sizes_of y m l) y.order (load (lower y) l) ≡ f (sizes_of z m k) z.order (load (lower z) k)
      together f =
          ap (λ (s : Answer). f s y.order (load (lower y) l)) same.sizes
          ∙ ap (λ (n : ℕ). f (sizes_of z m k) n (load (lower y) l)) same.order
          ∙ ap (f (sizes_of z m k) z.order) same.cells

-- ---- packed and full

-- where both lengths are right, the tests of size answer alike
unpacks_sizes : {n : ℕ} {p a : List Float} (m : ℕ) → Unpacks n p a → sizes_of (packed n) m p ≡ sizes_of (full n) m a
unfolding size_of tested
unpacks_sizes {n} {p} {a} m u = rw (eq-eqb (length p) (entries_of n) u.triangle, eq-eqb (length a) (n * n) u.whole) refl

pub unpacks_alike : {n : ℕ} {p a : List Float} (m : ℕ) → Unpacks n p a → Alike (packed n) (full n) m p a
unpacks_alike m u = record { order = refl; sizes = unpacks_sizes m u; cells = u.cells }

-- Whatever is promised of the grid alone: unpacked, what a call leaves of a packed slice is what it leaves of the full one, and the same comes back.
pub unpacked_alike : {Back : Type 0} {m : ℕ} {Promise : Layout → List Float → Back → List Float → Type 0} → GridAlone m Promise
    → {n : ℕ} {p p' a a' : List Float} {back back' : Back} → Unpacks n p a → Promise (packed n) p back p' → Promise (full n) a back' a'
    → (back ≡ back') × Unpacks n p' a'
unpacked_alike {m = m} alone {n} {p} {p'} {a} {a'} {back} {back'} u v w =
    let first = alone.works (packed n) p back p' v in
    let second = alone.works (full n) a back' a' w in
    let same = layouts_alike (unpacks_alike m u) first second in
    (same.0, record { triangle = works_long first ∙ u.triangle; whole = works_long second ∙ u.whole; cells = same.1.cells })

-- every packed slice can be unpacked
pub unpacks_some : (n : ℕ) (p : List Float) → n ≤ 1024 → length p ≡ entries_of n → (a : List Float) × Unpacks n p a
unfolding size_of lower
unpacks_some n p small long =
    let blank = listed (λ i. nan) (n * n) in
    let filled = overlaid_holds n (lower_low (full n)) (lower_left (full n)) (record { fair = lower_fair (full n) (full_roomy n small); long = listed_length (λ i. nan) (n * n) }) (load (lower (packed n)) p) in (
      overlaid (lower (full n)) n blank (load (lower (packed n)) p),
      record { triangle = long; whole = filled.sound.long; cells = sym (filled.cells ∙ masked) },
    )
  where
    -- both triangles have the same entries
    masked : mask (lower (full n)) (load (lower (packed n)) p) ≡ load (lower (packed n)) p
    masked = unfold mask load in mask_load (lower (packed n)) p

-- a packed slice has nothing beside its entries
pub packed_same : (n : ℕ) (l k : List Float) → length l ≡ entries_of n → length k ≡ entries_of n
    → ((i j : ℕ) → j ≤ i → i < n → load (lower (packed n)) l i j ≡ load (lower (packed n)) k i j) → l ≡ k
packed_same n l k long long' same = ext_get_or nan l k (long ∙ sym long') at
  where
    at : (p : ℕ) → p < length l → get_or l p nan ≡ get_or k p nan
    at p below =
        let e = packed_entry n p (omega (arith, long)) in
        ap (λ (q : ℕ). get_or l q nan) e.place
        ∙ sym (lower_at (packed n) l e.row e.column e.low e.inside)
        ∙ same e.row e.column e.low e.inside
        ∙ lower_at (packed n) k e.row e.column e.low e.inside
        ∙ ap (λ (q : ℕ). get_or k q nan) (sym e.place)

-- ---- a call that only reads

pub works_read : {Back : Type 0} {y : Layout} {m : ℕ} {l : List Float} {back : Back} (f : Answer → ℕ → Matrix → Back) → back ≡ f (sizes_of y m l) y.order (load (lower y) l)
    → Works (record { back = f; cells = λ n M. M }) y m l back l
works_read {y = y} {m} {l} f is = record {
  comes = is;
  leaves = record { done = λ done. holds_none (laid_fits (done_fits y m (length l) Done done)).sound; refused = λ refused. refl };
}
