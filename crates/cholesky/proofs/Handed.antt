-- Batches on one buffer are batches whose rows arrive: what is not handed in stands there as given. Assumes nothing.
use mathlib.Core.Path.{◌≡◌, refl, sym, ◌∙◌}
use mathlib.Core.List.{List}
use Prim.Native.Nat.{ℕ, ◌+◌, ◌≤◌, ◌<◌}
use native.Mathlib.Omega.{arith}
use lib.ListN.{length}
use lib.Ieee.{Float}
use Rattle.answer.specs.Answer.{Answer}
use Rattle.matrix.specs.Matrix.{Matrix}
use Rattle.matrix.specs.Grid.{load, Free, Kept}
use Rattle.matrix.specs.Layouts.{in_room, start_of, place_in, size_of, lower}
use Rattle.matrix.specs.Sizes.{Fits}
use Rattle.matrix.proofs.Places.{in_lower_law, lower_low, lower_under, lower_at, lower_across, free_at}
use Rattle.cholesky.specs.Run.{Rule}
use Rattle.cholesky.specs.Promise.{ExtendedBy}
use Rattle.cholesky.specs.Batches.{Rising, BatchesBy, none, refused, more}
use Rattle.cholesky.specs.Arriving.{Arrived, ArrivingBy}
use Rattle.cholesky.specs.Arriving as arriving
use Rattle.cholesky.proofs.Promises.{extended_leaves}
use Rattle.cholesky.proofs.Arriving.{rising_upto}

-- ---- one slice at two orders

free_before : (room m n p : ℕ) → m ≤ n → Free (lower (in_room n room)) p → Free (lower (in_room m room)) p
unfolding start_of place_in lower
free_before room m n p le free i j t e =
    let row : i < m = lower_low (in_room m room) i j t in
    free i j (in_lower_law (in_room n room) i j (lower_under (in_room m room) i j t) (omega arith)) e

-- ---- m rows are handed in, all else is as given

pub record Handed (room : ℕ) (l₀ : List Float) (m : ℕ) (l : List Float) : Type 0 where
  pub long : length l ≡ length l₀
  pub kept : Kept (lower (in_room m room)) l₀ l

pub handed_none : {room : ℕ} {l : List Float} → Handed room l 0 l
handed_none = record { long = refl; kept = λ p free. refl }

module _ (room n : ℕ) (l₀ : List Float) (fits : Fits (in_room n room) 0 (length l₀)) where
  -- the matrix that is handed in
  abbrev given : Matrix
  given = load (lower (in_room n room)) l₀

  module _ {m k : ℕ} {l : List Float} (h : Handed room l₀ m l) (rising : m ≤ k) (upto : k ≤ n) where
    inside : n ≤ room
    inside = fits.roomy.ordered

    fits_again : Fits (in_room k room) m (length l)
    unfolding size_of
    fits_again = let under = inside in record { roomy = record { ordered = omega arith; small = fits.roomy.small }; rising = rising; long = h.long ∙ fits.long }

    pub handed_arrived : Arrived given room m k (load (lower (in_room m room)) l) l
    handed_arrived = record {
      fits = fits_again;
      stand = λ i c le lt. lower_across room k m l i c le (omega arith) lt;
      come = λ i c le from lt.
          let under = inside in
          lower_at (in_room k room) l i c le lt
          ∙ h.kept (i + start_of (in_room k room) c) (unfold start_of in free_at room m i c (omega arith) (omega arith) (λ low early. omega arith))
          ∙ sym (lower_at (in_room k room) l₀ i c le lt)
          ∙ lower_across room k n l₀ i c le lt (omega arith);
    }

    pub handed_more : {ρ : Rule} {l' : List Float} {r : Answer} → ExtendedBy ρ (in_room k room) m l l' r → Handed room l₀ k l'
    unfolding lower size_of
    handed_more call =
        let left = extended_leaves call fits_again in
        record { long = left.holds.sound.long ∙ sym fits.long; kept = λ p free. left.holds.kept p free ∙ h.kept p (free_before room m k p rising free) }

  -- from m rows on
  pub batches_arriving : {ρ : Rule} {m e c : ℕ} {cuts : List ℕ} {l l' : List Float} {r : Answer} → Handed room l₀ m l → Rising m cuts e → e ≤ n → BatchesBy ρ room m l cuts c l' r
      → ArrivingBy ρ given m (load (lower (in_room m room)) l) cuts c (load (lower (in_room c room)) l') r × Handed room l₀ c l'
  batches_arriving h rising upto none = (arriving.none, h)
  batches_arriving {e = e} h rising upto (refused {c = c} {cuts = cuts} call failed) =
      let within : c ≤ e = rising_upto c cuts e rising.1 in
      (arriving.refused (handed_arrived h rising.0 (omega arith)) call failed, handed_more h rising.0 (omega arith) call)
  batches_arriving {e = e} h rising upto (more {k = k} {cuts = cuts} call passed rest) =
      let within : k ≤ e = rising_upto k cuts e rising.1 in
      let after = batches_arriving (handed_more h rising.0 (omega arith) call) rising.1 upto rest in
      (arriving.more (handed_arrived h rising.0 (omega arith)) call passed after.0, after.1)
