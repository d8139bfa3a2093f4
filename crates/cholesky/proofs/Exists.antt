-- There is always an answer and a slice that meet the promise of `extend`, with a floor or without, and so there are batches over every list of cuts. Assumes nothing.
use mathlib.Core.Path.{◌≡◌, refl}
use mathlib.Core.Bool.{Bool, true, false}
use mathlib.Core.List.{List, [], ◌∷◌}
use Prim.Native.Nat.{ℕ}
use lib.ListN.{length}
use lib.Ieee.{Float}
use Rattle.answer.specs.Answer.{Answer, Done, is_done}
use Rattle.answer.specs.Refusals.{tested}
use Rattle.answer.proofs.Done.{done_or_refused}
use Rattle.matrix.specs.declared.Layout.{Layout}
use Rattle.matrix.specs.Layouts.{in_room, lower}
use Rattle.matrix.specs.Sizes.{size_tests}
use Rattle.matrix.proofs.Places.{lower_low, lower_left}
use Rattle.matrix.proofs.Sizes.{done_fits, laid_fits}
use Rattle.matrix.proofs.Slices.{overlaid, overlaid_holds}
use Rattle.cholesky.specs.declared.Floored.{Floored}
use Rattle.cholesky.specs.Run.{Rule}
use Rattle.cholesky.specs.Crate.{crate_rule}
use Rattle.cholesky.specs.Floor.{floor_rule}
use Rattle.cholesky.specs.Promise.{batch_by, ExtendedBy, Extended}
use Rattle.cholesky.specs.Floored.{used_on, ExtendedFloored}
use Rattle.cholesky.specs.Batches.{BatchesBy, none, refused, more}
use Rattle.cholesky.proofs.Promises.{extended_unfit, extended_fit}

pub extended_some_by : (ρ : Rule) (y : Layout) (m : ℕ) (l : List Float) → (l' : List Float) × ((r : Answer) × ExtendedBy ρ y m l l' r)
extended_some_by ρ y m l =
    done_or_refused (tested (size_tests y m (length l)) Done)
    (λ done.
    let f = done_fits y m (length l) Done done in
    let cells = (batch_by ρ y m l).cells in
    let holds = overlaid_holds y.order (lower_low y) (lower_left y) (laid_fits f).sound cells in
    (overlaid (lower y) y.order l cells, ((batch_by ρ y m l).answer, extended_fit f (record { answer = refl; leaves = record { holds = holds } }))))
    (λ failed. (l, (tested (size_tests y m (length l)) Done, extended_unfit refl failed)))

pub extended_some : (y : Layout) (m : ℕ) (l : List Float) → (l' : List Float) × ((r : Answer) × Extended y m l l' r)
extended_some = extended_some_by crate_rule

-- with a floor
pub floored_some : (s : Float) (y : Layout) (m : ℕ) (l : List Float) → (l' : List Float) × ((r : Floored) × ExtendedFloored s y m l l' r)
floored_some s y m l = let call = extended_some_by (floor_rule s) y m l in (call.0, (record { answer = call.1.0; used = used_on s y m l }, record { extended = call.1.1; used = refl }))

-- batches over the cuts stop somewhere
abbrev pub Stop : Rule → ℕ → ℕ → List Float → List ℕ → Type 0
Stop ρ room m l cuts = (c : ℕ) × ((l' : List Float) × ((r : Answer) × BatchesBy ρ room m l cuts c l' r))

pub batches_some : (ρ : Rule) (room m : ℕ) (l : List Float) (cuts : List ℕ) → Stop ρ room m l cuts
batches_some ρ room m l [] = (m, (l, (Done, none)))
batches_some ρ room m l (k ∷ cuts) = let call = extended_some_by ρ (in_room k room) m l in by call.0 call.1.0 call.1.1 (is_done call.1.0) refl (λ l'. batches_some ρ room k l' cuts)
  where
    by : (l' : List Float) (r : Answer) → ExtendedBy ρ (in_room k room) m l l' r → (b : Bool) → is_done r ≡ b → ((l' : List Float) → Stop ρ room k l' cuts) → Stop ρ room m l (k ∷ cuts)
    by l' r call true passed onward = let rest = onward l' in (rest.0, (rest.1.0, (rest.1.1.0, more call passed rest.1.1.1)))
    by l' r call false failed onward = (k, (l', (r, refused call failed)))
