-- The counts of batches with one floor add up to the count of the one call. Assumes nothing.
--     handed_alone, arriving_alone  the calls without what they report
--     handed_arriving               batches on one buffer are batches whose rows arrive
--     arriving_used                 wherever they stop, they report how many of the one call's columns up to there used the floor
--     arriving_counts               so that their counts add up to the one call's
use mathlib.Core.Path.{◌≡◌, sym, ◌∙◌, ap, subst}
use mathlib.Core.Bool.{false}
use mathlib.Core.List.{List}
use Prim.Native.Nat.{ℕ, ◌+◌, ◌≤◌}
use native.Mathlib.Omega.{arith}
use lib.ListN.{length}
use lib.Ieee.{Float}
use Rattle.answer.specs.Answer.{Answer, Done, is_done}
use Rattle.answer.proofs.Done.{done_is, done_or_refused}
use Rattle.matrix.specs.Matrix.{Matrix}
use Rattle.matrix.specs.Grid.{load}
use Rattle.matrix.specs.Layouts.{in_room, lower}
use Rattle.matrix.specs.Sizes.{Fits}
use Rattle.cholesky.specs.declared.Floored.{Floored}
use Rattle.cholesky.specs.Run.{started, factor_columns}
use Rattle.cholesky.specs.Floor.{floor_rule}
use Rattle.cholesky.specs.Used.{used_by}
use Rattle.cholesky.specs.Floored.{ExtendedFloored}
use Rattle.cholesky.specs.Batches.{Rising, BatchesBy}
use Rattle.cholesky.specs.Batches as handed
use Rattle.cholesky.specs.Arriving.{ArrivingBy}
use Rattle.cholesky.specs.Arriving as arriving
use Rattle.cholesky.proofs.Counting.{used_none, used_join, used_refused}
use Rattle.cholesky.proofs.FlooredPromises.{used_fit}
use Rattle.cholesky.proofs.Arriving.{rising_upto, arriving_upto, arriving_all, LikeOne, like_one_none, like_one_more, like_one, used_one_more}
use Rattle.cholesky.proofs.Handed.{Handed, handed_arrived, handed_more}
use Rattle.floor_laws.specs.Batches.{FlooredBatches}
use Rattle.floor_laws.specs.Batches as batches
use Rattle.floor_laws.specs.Arriving.{FlooredArriving}
use Rattle.floor_laws.specs.Arriving as rows
use Rattle.floor_laws.specs.Counts.{CountsAdd}

-- ---- the calls without what they report

module _ {s : Float} where
  pub handed_alone : {room m c : ℕ} {l l' : List Float} {cuts : List ℕ} {r : Answer} {total : ℕ} → FlooredBatches s room m l cuts c l' r total → BatchesBy (floor_rule s) room m l cuts c l' r
  handed_alone batches.none = handed.none
  handed_alone (batches.refused call failed) = handed.refused call.extended failed
  handed_alone (batches.more call passed rest) = handed.more call.extended passed (handed_alone rest)

  pub arriving_alone : {given : Matrix} {m c : ℕ} {M N : Matrix} {cuts : List ℕ} {r : Answer} {total : ℕ} → FlooredArriving s given m M cuts c N r total → ArrivingBy (floor_rule s) given m M cuts c N r
  arriving_alone rows.none = arriving.none
  arriving_alone (rows.refused a call failed) = arriving.refused a call.extended failed
  arriving_alone (rows.more a call passed rest) = arriving.more a call.extended passed (arriving_alone rest)

-- ---- up to some row

module _ (s : Float) (given : Matrix) where
  -- how many of the first c columns of the one call used the floor
  abbrev used_upto : ℕ → ℕ
  used_upto c = used_by (floor_rule s) 0 c given

  -- from m rows on
  arriving_from : (e : ℕ) {m c : ℕ} {cuts : List ℕ} {M N : Matrix} {r : Answer} {total : ℕ} → LikeOne (floor_rule s) given m M Done → Rising m cuts e → FlooredArriving s given m M cuts c N r total
      → used_upto m + total ≡ used_upto c
  arriving_from e so rising rows.none = omega arith
  arriving_from e so rising (rows.refused {room} {m} {c} {l = l} a call failed) =
      let own = call.used ∙ used_fit s (in_room c room) m l a.fits in
      let sum = used_one_more given so rising.0 a in
      omega arith
  arriving_from e so rising (rows.more {room} {m} {k} {l = l} {l' = l'} {f = f} a call passed rest) =
      let own = call.used ∙ used_fit s (in_room k room) m l a.fits in
      let sum = used_one_more given so rising.0 a in
      let after = arriving_from e (subst (LikeOne (floor_rule s) given k (load (lower (in_room k room)) l')) (done_is f.answer passed) (like_one_more given so rising.0 a call.extended)) rising.1 rest in
      omega arith

  pub arriving_used : (e : ℕ) {c : ℕ} {cuts : List ℕ} {M N : Matrix} {r : Answer} {total : ℕ} → Rising 0 cuts e → FlooredArriving s given 0 M cuts c N r total → total ≡ used_upto c
  arriving_used e {M = M} rising came =
      let all = arriving_from e (like_one_none given M) rising came in
      let first = used_none (floor_rule s) 0 0 (started given) in
      omega arith

-- ---- beside the one call, which passes codes 1 to 3

module _ (s : Float) (room n : ℕ) (l₀ : List Float) (fits : Fits (in_room n room) 0 (length l₀)) where
  abbrev given : Matrix
  given = load (lower (in_room n room)) l₀

  pub arriving_counts : {e c : ℕ} {cuts : List ℕ} {M N : Matrix} {r : Answer} {total : ℕ} {whole : List Float} {f : Floored} → Rising 0 cuts e → e ≤ n
      → FlooredArriving s given 0 M cuts c N r total → ExtendedFloored s (in_room n room) 0 l₀ whole f → CountsAdd n e r total f.used
  unfolding factor_columns
  arriving_counts {e} {c} {r = r} {total = total} {f = f} rising upto came call = record {
    ended = λ all. done_or_refused r (λ passed. so ∙ ap (used_upto s given) (arriving_all rising (arriving_alone came) passed ∙ all) ∙ sym one) stopped;
    refused = stopped;
  }
    where
      so : total ≡ used_upto s given c
      so = arriving_used s given e rising came

      one : f.used ≡ used_upto s given n
      one = call.used ∙ used_fit s (in_room n room) 0 l₀ fits

      -- a refusal at one of the first c columns: the one call counts none after them
      stopped : is_done r ≡ false → total ≡ f.used
      stopped failed =
          let inside : c ≤ e = arriving_upto rising (arriving_alone came) in
          let split = used_join (floor_rule s) 0 0 c n (started given) (omega arith) (omega arith) in
          let rest = used_refused (floor_rule s) 0 c n (factor_columns (floor_rule s) 0 c given) (ap is_done (sym (like_one given e rising (arriving_alone came)).answer) ∙ failed) in
          so ∙ (let sum : used_upto s given c ≡ used_upto s given n = omega arith in sum) ∙ sym one

  -- batches on one buffer are batches whose rows arrive
  pub handed_arriving : {m e c : ℕ} {cuts : List ℕ} {l l' : List Float} {r : Answer} {total : ℕ} → Handed room l₀ m l → Rising m cuts e → e ≤ n → FlooredBatches s room m l cuts c l' r total
      → FlooredArriving s given m (load (lower (in_room m room)) l) cuts c (load (lower (in_room c room)) l') r total
  handed_arriving h rising upto batches.none = rows.none
  handed_arriving {e = e} h rising upto (batches.refused {c = c} {cuts = cuts} call failed) =
      let within : c ≤ e = rising_upto c cuts e rising.1 in
      rows.refused (handed_arrived room n l₀ fits h rising.0 (omega arith)) call failed
  handed_arriving {e = e} h rising upto (batches.more {k = k} {cuts = cuts} call passed rest) =
      let within : k ≤ e = rising_upto k cuts e rising.1 in
      rows.more (handed_arrived room n l₀ fits h rising.0 (omega arith)) call passed
      (handed_arriving (handed_more room n l₀ fits h rising.0 (omega arith) call.extended) rising.1 upto rest)
