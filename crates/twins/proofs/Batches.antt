-- Asked with each batch, no twins pass unseen. Assumes nothing.
use Rattle.std.proofs.Common.{◌≡◌, ℕ, ◌<◌, ◌≤◌, true, List, Float, Option, None, Ok, Err, IsOkAnd, sym, refl, ap, ◌∙◌, subst, true≢false, arith}
use native.Mathlib.Decide.{dec_le, dec_lt}
use Rattle.answer.specs.Answer.{Answer, is_done}
use Rattle.matrix.specs.Matrix.{Matrix}
use Rattle.matrix.proofs.Places.{lower_across}
use Rattle.twins.specs.declared.Pair.{Pair}
use Rattle.twins.specs.Twins.{symmetric, Twins}
use Rattle.twins.specs.First.{Found, NoneBetween, First, none, pair, rows_in, size_answer, FirstTwinSince, FirstTwin}
use Rattle.twins.specs.Batches as batches
use Rattle.twins.specs.Batches.{Clear, ToldOf}
use Rattle.twins.proofs.Clauses.{at_lower, at_upper}

-- ---- fewer rows

-- the first k rows of more
same_entry : (room n k : ℕ) (l : List Float) → k ≤ n → (i j : ℕ) → i < k → j < k → symmetric (rows_in room n l) i j ≡ symmetric (rows_in room k l) i j
same_entry room n k l fewer i j row column = by (dec_le j i)
  where
    by : Dec (j ≤ i) → symmetric (rows_in room n l) i j ≡ symmetric (rows_in room k l) i j
    by (yes low) = at_lower (rows_in room n l) i j low ∙ lower_across room n k l i j low (omega arith) row ∙ sym (at_lower (rows_in room k l) i j low)
    by (no high) =
        at_upper (rows_in room n l) i j (omega arith)
        ∙ lower_across room n k l j i (omega arith) (omega arith) column
        ∙ sym (at_upper (rows_in room k l) i j (omega arith))

-- twins of more rows are twins of the first k
pub fewer_twins : (room n k : ℕ) (l : List Float) (p q : ℕ) → k ≤ n → p < k → q < k → Twins n (rows_in room n l) p q → Twins k (rows_in room k l) p q
fewer_twins room n k l p q fewer below below' twins c within =
    sym (same_entry room n k l fewer q c below' within) ∙ twins c (omega arith) ∙ same_entry room n k l fewer p c below within

-- ---- the answer of one batch

accepted : (l : List Float) (room m n : ℕ) → FirstTwinSince l room m n (Ok None) → is_done (size_answer l room m n) ≡ true
accepted l room m n call =
    by (size_answer l room m n) refl
  where
    by : (r : Answer) → size_answer l room m n ≡ r → is_done (size_answer l room m n) ≡ true
    by (Ok done) fits = ap is_done fits
    by (Err fault) wrong = absurd (true≢false (ap is_done (call.refused wrong)))

none_found : {n : ℕ} {M : Matrix} {m : ℕ} → First n M m None → NoneBetween n M m n
none_found (none h) = h

-- ---- all batches

-- one batch more
clear_more : (room m n : ℕ) (l : List Float) → m ≤ n → NoneBetween m (rows_in room m l) 0 m → FirstTwinSince l room m n (Ok None) → NoneBetween n (rows_in room n l) 0 n
clear_more room m n l rising before call r s apart from below twins = by (dec_lt s m)
  where
    by : Dec (s < m) → ⊥
    by (yes early) = before r s apart (omega arith) early (fewer_twins room n m l r s rising (omega arith) early twins)
    by (no late) = none_found (call.found (accepted l room m n call)) r s apart (omega arith) below twins

-- none for every batch: no two of all rows are twins
pub clear_none : {room n : ℕ} {l : List Float} → Clear room n l → NoneBetween n (rows_in room n l) 0 n
clear_none batches.none = λ r s apart from below. absurd (omega arith)
clear_none (batches.more {room} {m} {l} {room'} {n} {l'} before rising kept call) =
    clear_more room' m n l' rising (subst (λ (M : Matrix). NoneBetween m M 0 m) (sym kept) (clear_none before)) call

-- and `first_twin` on the whole answers none
pub clear_first : {room n : ℕ} {l : List Float} → Clear room n l → is_done (size_answer l room 0 n) ≡ true → FirstTwin l room n (Ok None)
clear_first clear fits = record { refused = λ e. absurd (true≢false (sym fits ∙ ap is_done e)); found = λ e. none (clear_none clear) }

-- ---- the batch that brings the second

module _ (room n : ℕ) (l : List Float) (p q : ℕ) (apart : p < q) (twins : Twins n (rows_in room n l) p q) where
  -- rows p and q of n rows are twins: the batch of rows m to k that brought row q is told, whatever comes after it
  pub told : {room' m k : ℕ} {l' : List Float} {r : Found} → FirstTwinSince l' room' m k r → is_done (size_answer l' room' m k) ≡ true
      → rows_in room' k l' ≡ rows_in room k l → k ≤ n → m ≤ q → q < k → ToldOf m p q r
  told {room'} {m} {k} {l'} {r} call fits kept upto since within = by r (call.found fits)
    where
      brought : Twins k (rows_in room' k l') p q
      brought = subst (λ (M : Matrix). Twins k M p q) (sym kept) (fewer_twins room n k l p q upto (omega arith) within twins)

      of_first : {t : Option Pair} → First k (rows_in room' k l') m t → ToldOf m p q (Ok t)
      of_first (none h) = absurd (h p q apart since within brought)
      of_first (pair {p = f} {q = s} found) =
          let over : (q < s) → ⊥ = λ lt. found.least p q apart since lt brought in
          record {
            first = f;
            second = s;
            pair = refl;
            since = found.since;
            upto = omega arith;
            nearest = λ same.
                let behind : (p < f) → ⊥ = λ lt. found.nearest p lt (subst (Twins k (rows_in room' k l') p) (sym same) brought) in
                omega arith;
          }

      by : (r : Found) → IsOkAnd r (First k (rows_in room' k l') m) → ToldOf m p q r
      by (Ok t) first = of_first first
      by (Err e) never = absurd never
