-- Demand 3 for rows that arrive: batches written one after another give what the one call on the whole matrix gives. Assumes nothing.
use mathlib.Core.Path.{◌≡◌, refl, sym, ◌∙◌, ap, subst}
use mathlib.Core.Bool.{true, false, true≢false}
use mathlib.Core.List.{List, [], ◌∷◌}
use mathlib.Core.Logic.{inl}
use Prim.Native.Nat.{ℕ, ◌+◌, ◌≤◌, ◌<◌}
use native.Mathlib.Omega.{arith}
use lib.ListN.{length}
use lib.Ieee.{Float}
use Rattle.answer.specs.Answer.{Answer, Done, is_done}
use Rattle.answer.proofs.Done.{done_is, done_or_refused}
use Rattle.matrix.specs.Matrix.{Matrix}
use Rattle.matrix.specs.Loop.{for}
use Rattle.matrix.specs.Grid.{load}
use Rattle.matrix.specs.Layouts.{in_room, lower}
use Rattle.matrix.specs.Sizes.{Fits}
use Rattle.matrix.proofs.Loops.{for_none}
use Rattle.cholesky.specs.Run.{Rule, Outcome, factor_column, started, factor_columns}
use Rattle.cholesky.specs.Used.{used_by}
use Rattle.cholesky.specs.Promise.{ExtendedBy, Extended}
use Rattle.cholesky.specs.Batches.{Rising, RefusedIn}
use Rattle.cholesky.specs.Arriving.{Arrived, ArrivingBy, Arriving, none, refused, more, ArrivedAsOne}
use Rattle.cholesky.proofs.Parts.{Agree, leaves_agree}
use Rattle.cholesky.proofs.Onward.{columns_on, refusal_answers}
use Rattle.cholesky.proofs.Rows.{columns_off}
use Rattle.cholesky.proofs.Promises.{extended_answer, extended_leaves}
use Rattle.cholesky.proofs.Refusals.{columns_answered, NamesColumn, crate_names, refused_in}
use Rattle.cholesky.proofs.Batch.{batch_like, batch_used}

-- ---- where batches stop

pub rising_upto : (m : ℕ) (cuts : List ℕ) (e : ℕ) → Rising m cuts e → m ≤ e
rising_upto m [] e rising = omega arith
rising_upto m (c ∷ cuts) e rising = let rest = rising_upto c cuts e rising.1 in omega arith

module _ {ρ : Rule} {given : Matrix} where
  -- not after the last cut
  pub arriving_upto : {m e c : ℕ} {cuts : List ℕ} {M N : Matrix} {r : Answer} → Rising m cuts e → ArrivingBy ρ given m M cuts c N r → c ≤ e
  arriving_upto rising none = omega arith
  arriving_upto {e = e} rising (refused {c = c} {cuts = cuts} a call failed) = rising_upto c cuts e rising.1
  arriving_upto rising (more a call passed rest) = arriving_upto rising.1 rest

  -- at it, if none is refused
  pub arriving_all : {m e c : ℕ} {cuts : List ℕ} {M N : Matrix} {r : Answer} → Rising m cuts e → ArrivingBy ρ given m M cuts c N r → is_done r ≡ true → c ≡ e
  arriving_all rising none passed = rising
  arriving_all rising (refused a call failed) passed = absurd (true≢false (sym passed ∙ failed))
  arriving_all rising (more a call done rest) passed = arriving_all rising.1 rest passed

-- ---- what the rows hold

-- the answer r and the rows N, up to c, are those of the one call up to row c
pub record LikeOne (ρ : Rule) (given : Matrix) (c : ℕ) (N : Matrix) (r : Answer) : Type 0 where
  pub answer : r ≡ (factor_columns ρ 0 c given).answer
  pub cells : Agree c N (factor_columns ρ 0 c given).cells

module _ {ρ : Rule} (given : Matrix) where
  pub like_one_none : (M : Matrix) → LikeOne ρ given 0 M Done
  unfolding factor_columns
  like_one_none M = record { answer = ap (λ (o : Outcome). o.answer) (sym (for_none 0 (factor_column ρ 0) (started given))); cells = record { at = λ i j le lt. absurd (omega arith) } }

  -- one batch more
  module _ {room m k : ℕ} {M : Matrix} {l : List Float} (so : LikeOne ρ given m M Done) (rising : m ≤ k) (a : Arrived given room m k M l) where
    before : (i c : ℕ) → c ≤ i → i < m → load (lower (in_room k room)) l i c ≡ (for 0 m (factor_column ρ 0) (started given)).cells i c
    unfolding factor_columns
    before i c le lt = a.stand i c le lt ∙ so.cells.at i c le lt

    done : (for 0 m (factor_column ρ 0) (started given)).answer ≡ Done
    unfolding factor_columns
    done = sym so.answer

    pub like_one_more : {l' : List Float} {r : Answer} → ExtendedBy ρ (in_room k room) m l l' r → LikeOne ρ given k (load (lower (in_room k room)) l') r
    like_one_more call =
        let like = batch_like ρ m k given (load (lower (in_room k room)) l) rising done before a.come in
        record {
          answer = extended_answer call a.fits ∙ like.answer;
          cells = record { at = λ i j le lt. (leaves_agree (extended_leaves call a.fits)).at i j le lt ∙ like.cells.at i j le lt };
        }

    -- and its count
    pub used_one_more : used_by ρ 0 k given ≡ used_by ρ 0 m given + used_by ρ m k (load (lower (in_room k room)) l)
    used_one_more = batch_used ρ m k given (load (lower (in_room k room)) l) rising done before a.come

  like_one_from : (e : ℕ) {m c : ℕ} {cuts : List ℕ} {M N : Matrix} {r : Answer} → LikeOne ρ given m M Done → Rising m cuts e → ArrivingBy ρ given m M cuts c N r → LikeOne ρ given c N r
  like_one_from e so rising none = so
  like_one_from e so rising (refused a call failed) = like_one_more so rising.0 a call
  like_one_from e so rising (more {room} {k = k} {l' = l'} {r = r} a call passed rest) =
      like_one_from e (subst (LikeOne ρ given k (load (lower (in_room k room)) l')) (done_is r passed) (like_one_more so rising.0 a call)) rising.1 rest

  pub like_one : (e : ℕ) {c : ℕ} {cuts : List ℕ} {M N : Matrix} {r : Answer} → Rising 0 cuts e → ArrivingBy ρ given 0 M cuts c N r → LikeOne ρ given c N r
  like_one e {M = M} rising batches = like_one_from e (like_one_none M) rising batches

  -- refused, if at all, at a row handed in
  pub like_one_within : {c : ℕ} {N : Matrix} {r : Answer} → NamesColumn ρ → LikeOne ρ given c N r → RefusedIn 0 c r
  unfolding factor_columns
  like_one_within {c} names ends = subst (RefusedIn 0 c) (sym ends.answer) (refused_in names (columns_answered ρ 0 0 c 0 (λ j low early. low) (started given) refl))

-- ---- the one call on more rows

module _ (ρ : Rule) (given : Matrix) (c n : ℕ) (upto : c ≤ n) where
  longer_row : (i j : ℕ) → i < c → (factor_columns ρ 0 n given).cells i j ≡ (factor_columns ρ 0 c given).cells i j
  longer_row i j lt = sym (ap (λ (o : Outcome). o.cells i j) (columns_on ρ 0 given c n upto)) ∙ columns_off ρ i j 0 c n (factor_columns ρ 0 c given) (λ k from below. inl (omega arith))

  longer_done : NamesColumn ρ → (factor_columns ρ 0 c given).answer ≡ Done → RefusedIn c n (factor_columns ρ 0 n given).answer
  longer_done names done = subst (λ (o : Outcome). RefusedIn c n o.answer) (columns_on ρ 0 given c n upto) (refused_in names (columns_answered ρ 0 c n c (λ j low early. low) (factor_columns ρ 0 c given) done))

-- ---- the statement

-- The one call passes codes 1 to 3.
module _ {ρ : Rule} (names : NamesColumn ρ) (room n : ℕ) (l₀ : List Float) (fits : Fits (in_room n room) 0 (length l₀)) where
  abbrev given : Matrix
  given = load (lower (in_room n room)) l₀

  pub arriving_by : {e c : ℕ} {cuts : List ℕ} {M N : Matrix} {r : Answer} {whole : List Float} {w : Answer}
      → Rising 0 cuts e → e ≤ n → ArrivingBy ρ given 0 M cuts c N r → ExtendedBy ρ (in_room n room) 0 l₀ whole w → ArrivedAsOne n e c N r (load (lower (in_room n room)) whole) w
  arriving_by {e} {c} {cuts} {M} {N} {r} {whole} {w} rising upto batches call = record {
    ended = λ all.
        done_or_refused r
        (λ passed. ends.answer ∙ ap (λ (k : ℕ). (factor_columns ρ 0 k given).answer) (arriving_all rising batches passed ∙ all) ∙ sym answered)
        failing;
    refused = failing;
    later = λ passed.
        let at-end = subst (λ (k : ℕ). (factor_columns ρ 0 k given).answer ≡ Done) (arriving_all rising batches passed) (sym ends.answer ∙ done_is r passed) in
        subst (RefusedIn e n) (sym answered) (longer_done ρ given e n upto names at-end);
    rows = λ i j le lt.
        let under : c ≤ n = inside in
        ends.cells.at i j le lt ∙ sym (longer_row ρ given c n inside i j lt) ∙ sym ((leaves_agree (extended_leaves call fits)).at i j le (omega arith));
  }
    where
      inside : c ≤ n
      inside = let stop : c ≤ e = arriving_upto rising batches in omega arith

      ends : LikeOne ρ given c N r
      ends = like_one given e rising batches

      answered : w ≡ (factor_columns ρ 0 n given).answer
      answered = extended_answer call fits

      failing : is_done r ≡ false → r ≡ w
      failing failed = ends.answer ∙ ap (λ (o : Outcome). o.answer) (refusal_answers ρ 0 given c n inside (ap is_done (sym ends.answer) ∙ failed)) ∙ sym answered

-- by the crate's own rule
pub arriving : (room n : ℕ) (l₀ : List Float) → Fits (in_room n room) 0 (length l₀) → {e c : ℕ} {cuts : List ℕ} {M N : Matrix} {r : Answer} {whole : List Float} {w : Answer}
    → Rising 0 cuts e → e ≤ n → Arriving (load (lower (in_room n room)) l₀) 0 M cuts c N r → Extended (in_room n room) 0 l₀ whole w
    → ArrivedAsOne n e c N r (load (lower (in_room n room)) whole) w
arriving = arriving_by crate_names
