-- Demand 3: batches over any rising list of cuts give what the one call on the whole matrix gives, refused with the same code and row; by every rule whose refusals name their column. Assumes nothing.
use mathlib.Core.Path.{◌≡◌, refl, sym, ◌∙◌, ap, subst}
use mathlib.Core.Bool.{true, true≢false}
use mathlib.Core.List.{List, [], ◌∷◌}
use Prim.Native.Nat.{ℕ, ◌≤◌}
use native.Mathlib.Omega.{arith}
use lib.ListN.{length}
use lib.Ieee.{Float}
use Rattle.answer.specs.Answer.{Answer, Done, is_done}
use Rattle.answer.specs.Refusals.{Test, tested}
use Rattle.answer.proofs.Done.{done_or_refused}
use Rattle.answer.proofs.Tested.{tested_fixed}
use Rattle.matrix.specs.Matrix.{Matrix}
use Rattle.matrix.specs.Grid.{load, Kept}
use Rattle.matrix.specs.Layouts.{in_room, size_of, lower, Laid}
use Rattle.matrix.specs.Sizes.{size_tests, Fits}
use Rattle.matrix.proofs.Grids.{holds_unique}
use Rattle.matrix.proofs.Places.{lower_across}
use Rattle.matrix.proofs.Sizes.{fits_pass, done_fits, laid_fits}
use Rattle.cholesky.specs.Run.{Rule}
use Rattle.cholesky.specs.Promise.{batch_by, ExtendedBy, Extended}
use Rattle.cholesky.specs.Batches.{Rising, BatchesBy, Batches, refused, more, SameAsOne}
use Rattle.cholesky.specs.Arriving.{ArrivingBy, ArrivedAsOne}
use Rattle.cholesky.proofs.Refusals.{NamesColumn, crate_names}
use Rattle.cholesky.proofs.Parts.{agree_load}
use Rattle.cholesky.proofs.Promises.{extended_leaves}
use Rattle.cholesky.proofs.Arriving.{arriving_upto, arriving_all, like_one, like_one_within, arriving_by}
use Rattle.cholesky.proofs.Handed.{Handed, handed_none, batches_arriving}

-- The one call passes codes 1 to 3. One that does not leaves all as given, while batches that fit are worked on before the one that does not:
-- `refused_alike` says what holds then.
module _ {ρ : Rule} (names : NamesColumn ρ) (room n : ℕ) (l₀ : List Float) (fits : Fits (in_room n room) 0 (length l₀)) where
  pub demand3_by : {e c : ℕ} {cuts : List ℕ} {l : List Float} {r : Answer} {whole : List Float} {w : Answer} → Rising 0 cuts e → e ≤ n → BatchesBy ρ room 0 l₀ cuts c l r → ExtendedBy ρ (in_room n room) 0 l₀ whole w
      → SameAsOne room n l₀ e c l r whole w
  demand3_by {e} {c} {cuts} {l} {r} {whole} {w} rising upto batches call = record {
    ended = one.ended;
    refused = one.refused;
    within = like_one_within given names (like_one given e rising stop.0);
    handed = arriving_all rising stop.0;
    later = one.later;
    rows = rows;
    kept = stop.1.kept;
    buffer = λ all.
        let both = subst (λ (k : ℕ). (load (lower (in_room k room)) l ≡ load (lower (in_room k room)) whole) × Kept (lower (in_room k room)) l₀ l) all (rows, stop.1.kept) in
        let left = (extended_leaves call fits).holds in
        let laid : Laid (in_room n room) l₀ = laid_fits fits in
        holds_unique (record { sound = record { fair = left.sound.fair; long = stop.1.long ∙ laid.sound.long }; cells = both.0 ∙ left.cells; kept = both.1 }) left;
  }
    where
      given : Matrix
      given = load (lower (in_room n room)) l₀

      stop : ArrivingBy ρ given 0 (load (lower (in_room 0 room)) l₀) cuts c (load (lower (in_room c room)) l) r × Handed room l₀ c l
      stop = batches_arriving room n l₀ fits handed_none rising upto batches

      one : ArrivedAsOne n e c (load (lower (in_room c room)) l) r (load (lower (in_room n room)) whole) w
      one = arriving_by names room n l₀ fits rising upto stop.0 call

      rows : load (lower (in_room c room)) l ≡ load (lower (in_room c room)) whole
      rows =
          let stops : c ≤ e = arriving_upto rising stop.0 in
          agree_load (in_room c room) l whole (record { at = λ i j le lt. one.rows i j le lt ∙ lower_across room n c whole i j le (omega arith) lt })

-- by the crate's own rule
pub demand3 : (room n : ℕ) (l₀ : List Float) → Fits (in_room n room) 0 (length l₀) → {e c : ℕ} {cuts : List ℕ} {l : List Float} {r : Answer} {whole : List Float} {w : Answer}
    → Rising 0 cuts e → e ≤ n → Batches room 0 l₀ cuts c l r → Extended (in_room n room) 0 l₀ whole w → SameAsOne room n l₀ e c l r whole w
demand3 = demand3_by crate_names

-- ---- every input

module _ {ρ : Rule} where
  -- an accepted call passes codes 1 to 3
  accepted_fits : {room m k : ℕ} {l l' : List Float} {r : Answer} → ExtendedBy ρ (in_room k room) m l l' r → is_done r ≡ true → Fits (in_room k room) m (length l)
  accepted_fits {room} {m} {k} {l} call passed = done_fits (in_room k room) m (length l) (batch_by ρ (in_room k room) m l).answer (ap is_done (sym call.answer) ∙ passed)

  -- and so does the one call, if all batches are accepted and there is one
  batches_fit : (room m e k : ℕ) (cuts : List ℕ) {c : ℕ} {l l' : List Float} {r : Answer} → Rising m (k ∷ cuts) e → BatchesBy ρ room m l (k ∷ cuts) c l' r → is_done r ≡ true → Fits (in_room e room) m (length l)
  unfolding size_of
  batches_fit room m e k cuts rising (refused call failed) passed = absurd (true≢false (sym passed ∙ failed))
  batches_fit room m e k [] {l = l} rising (more call done rest) passed = subst (λ (e : ℕ). Fits (in_room e room) m (length l)) rising.1 (accepted_fits call done)
  batches_fit room m e k (h ∷ cuts) rising (more call done rest) passed =
      let first = accepted_fits call done in
      let last = batches_fit room k e h cuts rising.1 rest passed in
      record { roomy = last.roomy; rising = omega arith; long = first.long }

  -- sizes that do not fit included: a batch is refused exactly if the one call is
  pub refused_alike_by : NamesColumn ρ → (room n : ℕ) (l₀ : List Float) {k c : ℕ} {cuts : List ℕ} {l : List Float} {r : Answer} {whole : List Float} {w : Answer}
      → Rising 0 (k ∷ cuts) n → BatchesBy ρ room 0 l₀ (k ∷ cuts) c l r → ExtendedBy ρ (in_room n room) 0 l₀ whole w → is_done r ≡ is_done w
  refused_alike_by names room n l₀ {k} {cuts = cuts} {r = r} rising batches call =
      done_or_refused (tested tests Done)
      (λ done. ap is_done ((demand3_by names room n l₀ (done_fits (in_room n room) 0 (length l₀) Done done) rising (omega arith) batches call).ended refl))
      (λ failed.
      done_or_refused r
      (λ passed. absurd (true≢false (sym (ap is_done (fits_pass (in_room n room) 0 (length l₀) (batches_fit room 0 n k cuts rising batches passed) Done)) ∙ failed)))
      (λ refused. refused ∙ sym (ap is_done (call.answer ∙ tested_fixed tests (batch_by ρ (in_room n room) 0 l₀).answer failed) ∙ failed)))
    where
      tests : List Test
      tests = size_tests (in_room n room) 0 (length l₀)

-- by the crate's own rule
pub refused_alike : (room n : ℕ) (l₀ : List Float) {k c : ℕ} {cuts : List ℕ} {l : List Float} {r : Answer} {whole : List Float} {w : Answer}
    → Rising 0 (k ∷ cuts) n → Batches room 0 l₀ (k ∷ cuts) c l r → Extended (in_room n room) 0 l₀ whole w → is_done r ≡ is_done w
refused_alike = refused_alike_by crate_names
