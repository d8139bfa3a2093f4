-- Demand 3 over the chain of new buffers: derived from the full layout's, for rows that arrive, by the layout theorem. Assumes nothing.
use mathlib.Core.Path.{◌≡◌, refl, sym, ◌∙◌, ap, subst}
use mathlib.Core.List.{List, [], ◌∷◌}
use Prim.Native.Nat.{ℕ, ◌≤◌, ◌<◌}
use native.Mathlib.Omega.{arith}
use lib.ListN.{length}
use lib.Ieee.{Float}
use borrow.Author.Tests.{lt-ltb, le-ltb}
use Rattle.answer.specs.Answer.{Answer}
use Rattle.matrix.specs.Matrix.{Matrix}
use Rattle.matrix.specs.Grid.{load, Holds}
use Rattle.matrix.specs.Layouts.{full, packed, entries_of, size_of, lower}
use Rattle.matrix.specs.Sizes.{Fits}
use Rattle.matrix.specs.Engines.{Unpacks}
use Rattle.matrix.proofs.Grids.{mask_in}
use Rattle.matrix.proofs.Places.{in_lower_law, lower_low, lower_left}
use Rattle.matrix.proofs.Sizes.{laid_fits}
use Rattle.matrix.proofs.Slices.{overlaid, overlaid_holds}
use Rattle.matrix.proofs.Engines.{unpacked_alike, unpacks_some, packed_same}
use Rattle.packing.specs.Joined.{joined}
use Rattle.packing.specs.inner.Sizes.{Parts}
use Rattle.cholesky.specs.Promise.{Extended}
use Rattle.cholesky.specs.Batches.{Rising, RefusedIn}
use Rattle.cholesky.specs.Arriving.{Arrived, Arriving, ArrivedAsOne}
use Rattle.cholesky.specs.Arriving as arriving
use Rattle.cholesky.proofs.Refusals.{crate_names}
use Rattle.cholesky.proofs.Arriving.{arriving, arriving_all, like_one, like_one_within, rising_upto}
use Rattle.cholesky.proofs.Exists.{extended_some}
use Rattle.packed.specs.Growing.{handed_in, Grown}
use Rattle.packed.specs.Chain.{Came, Chain, none, refused, more, ChainedAsOne}
use Rattle.packed.proofs.Growing.{grown_extended}
use Rattle.packed.proofs.GridAlone.{cholesky_alone}

-- ---- one batch, in the full layout

module _ (n : ℕ) (whole : List Float) where
  -- the matrix that is handed in
  abbrev given : Matrix
  given = load (lower (packed n)) whole

  module _ {m k : ℕ} {old rows fresh fresh' : List Float} {r : Answer} (came : Came n whole m k rows fresh) (rising : m ≤ k) (small : k ≤ 1024) (first : length old ≡ entries_of m)
      (call : Grown m k old rows fresh r fresh') where
    parts : Parts m k old rows fresh
    parts = record { further = record { rising = rising; small = small; long = came.long; room = came.room }; first = first }

    fits : (l : List Float) → length l ≡ entries_of k → Fits (packed k) m (length l)
    unfolding size_of
    fits l long = record { roomy = record { ordered = omega arith; small = small }; rising = rising; long = long }

    -- the parts joined in a packed slice
    joint : List Float
    joint = overlaid (lower (packed k)) k fresh (joined m old rows)

    joins : Holds (lower (packed k)) fresh joint (handed_in m k old rows)
    unfolding joint
    joins = overlaid_holds k (lower_low (packed k)) (lower_left (packed k)) (laid_fits {l = fresh} (fits fresh came.room)).sound (joined m old rows)

    joint_long : length joint ≡ entries_of k
    joint_long = unfold lower size_of in joins.sound.long

    packed_call : Extended (packed k) m joint fresh' r
    packed_call = grown_extended parts joins call

    -- and in the full layout
    unpacked : (a : List Float) × Unpacks k joint a
    unpacked = unpacks_some k joint small joint_long

    full_call : (l : List Float) × ((q : Answer) × Extended (full k) m unpacked.0 l q)
    full_call = extended_some (full k) m unpacked.0

    same : (r ≡ full_call.1.0) × Unpacks k fresh' full_call.0
    same = unpacked_alike (cholesky_alone m) unpacked.1 packed_call full_call.1.1

    pub grown_long : length fresh' ≡ entries_of k
    grown_long = same.1.triangle

    handed_at : (i j : ℕ) → j ≤ i → i < k → load (lower (full k)) unpacked.0 i j ≡ joined m old rows i j
    handed_at i j le lt =
        ap (λ (N : Matrix). N i j) (sym unpacked.1.cells ∙ joins.cells) ∙ mask_in (lower (packed k)) (joined m old rows) i j (in_lower_law (packed k) i j le lt)

    arrived : Arrived given k m k (load (lower (packed m)) old) unpacked.0
    unfolding joined
    arrived = record {
      fits = unfold size_of in record { roomy = record { ordered = omega arith; small = small }; rising = rising; long = unpacked.1.whole };
      stand = λ i j le lt. handed_at i j le (omega arith) ∙ rw (lt-ltb i m lt) refl;
      come = λ i j le from lt. handed_at i j le lt ∙ rw (le-ltb i m from) (came.come i j le from lt);
    }

    -- a call of the full layout on what arrived, with the same answer, which leaves the rows that the packed one does
    pub record InFull : Type 0 where
      pub slice : List Float
      pub after : List Float
      pub arrives : Arrived given k m k (load (lower (packed m)) old) slice
      pub extends : Extended (full k) m slice after r
      pub leaves : load (lower (full k)) after ≡ load (lower (packed k)) fresh'

    pub in_full : InFull
    in_full = record {
      slice = unpacked.0;
      after = full_call.0;
      arrives = arrived;
      extends = subst (Extended (full k) m unpacked.0 full_call.0) (sym same.0) full_call.1.1;
      leaves = sym same.1.cells;
    }

  -- ---- the chain, in the full layout

  pub in_full_chain : {e m c : ℕ} {old last : List Float} {cuts : List ℕ} {r : Answer} → Rising m cuts e → e ≤ 1024 → length old ≡ entries_of m → Chain n whole m old cuts c last r
      → Arriving given m (load (lower (packed m)) old) cuts c (load (lower (packed c)) last) r × (length last ≡ entries_of c)
  in_full_chain rising upto first none = (arriving.none, first)
  in_full_chain {e} rising upto first (refused {m = m} {c = c} {old = old} {r = r} {cuts = cuts} came call failed) =
      let stop : c ≤ e = rising_upto c cuts e rising.1 in
      let one = in_full came rising.0 (omega arith) first call in (
        subst (λ (N : Matrix). Arriving given m (load (lower (packed m)) old) (c ∷ cuts) c N r) one.leaves (arriving.refused one.arrives one.extends failed),
        grown_long came rising.0 (omega arith) first call,
      )
  in_full_chain {e} rising upto first (more {m = m} {k = k} {c = c} {old = old} {fresh' = fresh'} {last = last} {r' = r'} {cuts = cuts} came call passed rest) =
      let stop : k ≤ e = rising_upto k cuts e rising.1 in
      let one = in_full came rising.0 (omega arith) first call in
      let on = in_full_chain rising.1 upto (grown_long came rising.0 (omega arith) first call) rest in
      (arriving.more one.arrives one.extends passed (subst (λ (M : Matrix). Arriving given k M cuts c (load (lower (packed c)) last) r') (sym one.leaves) on.0), on.1)

-- ---- the statement

-- The one packed call passes codes 1 to 3.
module _ (n : ℕ) (whole : List Float) (small : n ≤ 1024) (packs : length whole ≡ entries_of n) where
  pub packed_demand3 : {e c : ℕ} {cuts : List ℕ} {last one : List Float} {r w : Answer}
      → Rising 0 cuts e → e ≤ n → Chain n whole 0 [] cuts c last r → Extended (packed n) 0 whole one w → ChainedAsOne n e c last r one w
  unfolding size_of
  packed_demand3 {e} {c} {cuts} {last} {one} {r} {w} rising upto chain call = record {
    ended = λ all. as_one.ended all ∙ sym same.0;
    refused = λ failed. as_one.refused failed ∙ sym same.0;
    within = like_one_within (given n whole) crate_names (like_one (given n whole) e rising batches);
    handed = arriving_all rising batches;
    later = λ passed. subst (RefusedIn e n) (sym same.0) (as_one.later passed);
    long = through.1;
    rows = rows;
    buffer = buffer;
  }
    where
      through : Arriving (given n whole) 0 (load (lower (packed 0)) []) cuts c (load (lower (packed c)) last) r × (length last ≡ entries_of c)
      through = in_full_chain n whole rising (omega arith) refl chain

      batches : Arriving (given n whole) 0 (load (lower (packed 0)) []) cuts c (load (lower (packed c)) last) r
      batches = through.0

      -- the whole matrix and the one call, in the full layout
      unpacked : (a : List Float) × Unpacks n whole a
      unpacked = unpacks_some n whole small packs

      full_call : (l : List Float) × ((q : Answer) × Extended (full n) 0 unpacked.0 l q)
      full_call = extended_some (full n) 0 unpacked.0

      same : (w ≡ full_call.1.0) × Unpacks n one full_call.0
      same = unpacked_alike (cholesky_alone 0) unpacked.1 call full_call.1.1

      as_one : ArrivedAsOne n e c (load (lower (packed c)) last) r (load (lower (full n)) full_call.0) full_call.1.0
      as_one =
          arriving n n unpacked.0 (record { roomy = record { ordered = omega arith; small = small }; rising = omega arith; long = unpacked.1.whole }) rising upto
          (subst (λ (G : Matrix). Arriving G 0 (load (lower (packed 0)) []) cuts c (load (lower (packed c)) last) r) unpacked.1.cells batches)
          full_call.1.1

      rows : (i j : ℕ) → j ≤ i → i < c → load (lower (packed c)) last i j ≡ load (lower (packed n)) one i j
      rows i j le lt = as_one.rows i j le lt ∙ ap (λ (N : Matrix). N i j) (sym same.1.cells)

      buffer : c ≡ n → last ≡ one
      buffer all = packed_same n last one (through.1 ∙ ap entries_of all) same.1.triangle (λ i j le lt.
          ap (λ (k : ℕ). load (lower (packed k)) last i j) (sym all) ∙ rows i j le (omega arith))
