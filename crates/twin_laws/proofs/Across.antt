-- Row q of a batch is the twin of row p of an earlier batch: what `cholesky::extend` answers and leaves. Assumes nothing.
use Rattle.std.specs.Prelude.{Err}
use mathlib.Core.Path.{◌≡◌, refl, sym, ◌∙◌, ap, ap₂, subst}
use mathlib.Core.Bool.{true, false}
use mathlib.Core.List.{List}
use Prim.Native.Nat.{ℕ, ◌+◌, ◌≤◌, ◌<◌}
use native.Mathlib.Omega.{arith}
use lib.ListN.{length}
use lib.Ieee.{Float, neg, lt, eq, is_nan}
use Rattle.answer.specs.declared.Refusal.TheVariants.{CholeskyZero, CholeskyBelowZero, CholeskyNan}
use Rattle.answer.specs.Answer.{Answer, Done, is_done}
use Rattle.leaf.specs.Root.{root_of}
use Rattle.matrix.specs.Matrix.{Matrix}
use Rattle.matrix.specs.Loop.{for}
use Rattle.matrix.specs.Grid.{load}
use Rattle.matrix.specs.Layouts.{in_room, lower}
use Rattle.matrix.specs.Sizes.{Fits}
use Rattle.matrix.specs.Rounded.{◌⊗◌, ◌⊘◌, plus_zero}
use Rattle.cholesky.specs.Column.{updated}
use Rattle.cholesky.specs.Run.{Outcome, factor_column, factor_columns}
use Rattle.cholesky.specs.Crate.{answer_to, crate_rule}
use Rattle.cholesky.specs.Promise.{Extended}
use Rattle.cholesky.specs.Batches.{Rising, Batches}
use Rattle.cholesky.proofs.Onward.{columns_on, refusal_answers, accepted_before}
use Rattle.cholesky.specs.Diagonal.{Due, above_zero, is_zero, below_zero, is_a_nan}
use Rattle.cholesky.proofs.Diagonal.{due_is, answer_passes}
use Rattle.cholesky.proofs.Refusals.{Answered, columns_answered}
use Rattle.cholesky.specs.Arriving.{Arriving}
use Rattle.cholesky.proofs.Arriving.{LikeOne, like_one, like_one_more}
use Rattle.cholesky.proofs.Handed.{Handed, handed_none, handed_arrived, batches_arriving}
use Rattle.twins.specs.Twins.{Twins}
use Rattle.twins.proofs.Clauses.{Lower, lower_of_twins}
use Rattle.cholesky.proofs.Entries.{After, Accepted, Updated, diagonal_of, refused_diagonal, stands, right_of}
use Rattle.twin_laws.proofs.Cholesky.{reduced, reduced_same, remainder, twin_left, twin_diagonal, twin_beside, twin_rest, twin_next, twin_refused, twin_between_law}

-- ---- what is said of the call

-- A is the matrix as it was handed in, L what stands in the buffer after the call
module _ (A L : Matrix) (p : ℕ) where
  -- row p's diagonal before its root was taken
  abbrev pub v : Float
  v = reduced A L p p p

  -- what column p leaves of the twin's diagonal: v + (−(v / root v))·(v / root v)
  abbrev pub crumb : Float
  crumb = remainder crate_rule v v

  module _ (q m n : ℕ) (r : Answer) where
    -- rows m to n answered r, p < m ≤ q < n: whatever r is
    pub record Across : Type 0 where
      -- done, or refused by 7, 10 or 11 at one of them
      pub answer : Answered crate_rule m n r
      -- rows p and q, up to column p
      pub left : (c : ℕ) → c < p → L q c ≡ L p c
      pub diagonal : L p p ≡ root_of v
      pub beside : L q p ≡ v ⊘ root_of v
      -- what the columns up to p leave of row q's diagonal, and of its entries between the twins
      pub rest : reduced A L q q (p + 1) ≡ crumb
      pub between : (j : ℕ) → p < j → j < q → reduced A L q j (p + 1) ≡ remainder crate_rule v (reduced A L j p p)

    -- q = p + 1: the crumb decides
    pub record Neighbours : Type 0 where
      -- zero (7), below zero (10) or NaN (11): row q is refused, and the crumb stays on its diagonal
      pub is_zero : eq crumb plus_zero ≡ true → r ≡ Err (CholeskyZero q)
      pub below_zero : lt crumb plus_zero ≡ true → r ≡ Err (CholeskyBelowZero q)
      pub is_a_nan : is_nan crumb ≡ true → r ≡ Err (CholeskyNan q)
      pub leaves : lt plus_zero crumb ≡ false → L q q ≡ crumb
      -- above zero: row q is accepted, and the crumb's root stands there
      pub accepted : lt plus_zero crumb ≡ true → Answered crate_rule (q + 1) n r
      pub root : lt plus_zero crumb ≡ true → L q q ≡ root_of crumb

-- ---- the call

-- l₀ holds the rows as they were handed in. Batches over cuts up to row m were accepted and left l; then a call on rows m to n left l' and answered r.
module _ (room m n p q : ℕ) (cuts : List ℕ) (l₀ l l' : List Float) (r : Answer)
    (fits : Fits (in_room n room) 0 (length l₀))
    (rising : Rising 0 cuts m)
    (before : Batches room 0 l₀ cuts m l Done)
    (call : Extended (in_room n room) m l l' r)
    (earlier : p < m)
    (later : m ≤ q)
    (within : q < n)
    (twins : Twins n (load (lower (in_room n room)) l₀) p q) where
  abbrev A : Matrix
  A = load (lower (in_room n room)) l₀

  abbrev L : Matrix
  L = load (lower (in_room n room)) l'

  given : Lower n A p q
  given = lower_of_twins n A p q (omega arith) within twins

  stop : Arriving A 0 (load (lower (in_room 0 room)) l₀) cuts m (load (lower (in_room m room)) l) Done × Handed room l₀ m l
  stop = batches_arriving room n l₀ fits handed_none rising (omega arith) before

  ends_before : LikeOne crate_rule A m (load (lower (in_room m room)) l) Done
  ends_before = like_one A m rising stop.0

  ends : LikeOne crate_rule A n L r
  ends = like_one_more A ends_before (omega arith) (handed_arrived room n l₀ fits stop.1 (omega arith) (omega arith)) call

  before_done : (factor_columns crate_rule 0 m A).answer ≡ Done
  before_done = sym ends_before.answer

  accepted_p : Accepted crate_rule A (p + 1)
  accepted_p = accepted_before crate_rule 0 A (p + 1) m (omega arith) (ap is_done before_done)

  -- the entries of finished columns are the run's
  cell : (k i c : ℕ) → c < k → k ≤ n → c ≤ i → i < n → L i c ≡ After crate_rule A k i c
  cell k i c left upto low under = ends.cells.at i c low under ∙ stands crate_rule A k n i c left upto

  chained : (k i j : ℕ) → k ≤ j → j ≤ i → i < n → reduced A L i j k ≡ updated (After crate_rule A k) j k i
  unfolding updated
  chained k i j upto low under =
      reduced_same A L (After crate_rule A k) (After crate_rule A k) i j i j k
      (sym (right_of crate_rule A k i j upto))
      (λ t lt. ap₂ (λ (x y : Float). neg x ⊗ y) (cell k j t lt (omega arith) (omega arith) (omega arith)) (cell k i t lt (omega arith) (omega arith) (omega arith)))

  -- the answer of the rows from lo on
  answered : (lo : ℕ) (o : Outcome) → o.answer ≡ Done → Answered crate_rule lo n (for lo n (factor_column crate_rule 0) o).answer
  answered lo o start = columns_answered crate_rule 0 lo n lo (λ j low early. low) o start

  v_is : Updated crate_rule A p p ≡ v A L p
  v_is = sym (chained p p p (omega arith) (omega arith) (omega arith))

  pub across : Across A L p q m n r
  across = record {
    answer = subst (Answered crate_rule m n) (ap (λ (o : Outcome). o.answer) (columns_on crate_rule 0 A m n (omega arith)) ∙ sym ends.answer) (answered m (factor_columns crate_rule 0 m A) before_done);
    left = λ c h.
        cell (p + 1) q c (omega arith) (omega arith) (omega arith) within
        ∙ twin_left crate_rule A p q apart given.left given.diagonal accepted_p c h
        ∙ sym (cell (p + 1) p c (omega arith) (omega arith) (omega arith) (omega arith));
    diagonal =
        cell (p + 1) p p (omega arith) (omega arith) (omega arith) (omega arith)
        ∙ twin_diagonal crate_rule A p q apart given.left given.diagonal accepted_p
        ∙ ap root_of v_is;
    beside =
        cell (p + 1) q p (omega arith) (omega arith) (omega arith) within
        ∙ twin_beside crate_rule A p q apart given.left given.diagonal accepted_p
        ∙ ap (λ (x : Float). x ⊘ root_of x) v_is;
    rest =
        chained (p + 1) q q (omega arith) (omega arith) within
        ∙ twin_rest crate_rule A p q apart given.left given.diagonal accepted_p
        ∙ ap (λ (x : Float). remainder crate_rule x x) v_is;
    between = λ j h h'.
        chained (p + 1) q j (omega arith) (omega arith) within
        ∙ twin_between_law crate_rule A p q apart given.left given.diagonal accepted_p j h h' (given.between j h h')
        ∙ ap₂ (remainder crate_rule) v_is (sym (chained p j p (omega arith) (omega arith) (omega arith)));
  }
    where
      apart : p < q
      apart = omega arith

  -- ---- neighbours

  module _ (next : q ≡ p + 1) where
    accepted_q : Accepted crate_rule A q
    accepted_q = subst (Accepted crate_rule A) (sym next) accepted_p

    crumb_is : Updated crate_rule A q q ≡ crumb A L p
    crumb_is = twin_next crate_rule A p q (omega arith) given.left given.diagonal accepted_p next ∙ ap (λ (x : Float). remainder crate_rule x x) v_is

    -- the answer up to row q is the one that is due to the crumb
    due_q : {a : Answer} → Due (crumb A L p) q a → (factor_columns crate_rule 0 (q + 1) A).answer ≡ a
    due_q so =
        twin_refused crate_rule A p q (omega arith) given.left given.diagonal accepted_p next
        ∙ ap (λ (x : Float). answer_to (remainder crate_rule x x) q) v_is
        ∙ sym (due_is so)

    diagonal_q : L q q ≡ After crate_rule A (q + 1) q q
    diagonal_q = cell (q + 1) q q (omega arith) (omega arith) (omega arith) within

    refused_q : {a : Answer} → Due (crumb A L p) q a → is_done a ≡ false → r ≡ a
    refused_q so failed =
        ends.answer
        ∙ ap (λ (o : Outcome). o.answer) (sym (refusal_answers crate_rule 0 A (q + 1) n (omega arith) (ap is_done (due_q so) ∙ failed)))
        ∙ due_q so

    pub neighbours : Neighbours A L p q m n r
    neighbours = record {
      is_zero = λ h. refused_q (is_zero h) refl;
      below_zero = λ h. refused_q (below_zero h) refl;
      is_a_nan = λ h. refused_q (is_a_nan h) refl;
      leaves = λ fails. diagonal_q ∙ refused_diagonal crate_rule A q accepted_q (ap (λ (x : Float). is_done (answer_to x q)) crumb_is ∙ answer_passes (crumb A L p) q ∙ fails) ∙ crumb_is;
      accepted = λ some. subst (Answered crate_rule (q + 1) n) (ap (λ (o : Outcome). o.answer) (columns_on crate_rule 0 A (q + 1) n (omega arith)) ∙ sym ends.answer) (answered (q + 1) (factor_columns crate_rule 0 (q + 1) A) (due_q (above_zero some)));
      root = λ some. diagonal_q ∙ diagonal_of crate_rule A q (ap is_done (due_q (above_zero some))) ∙ ap root_of crumb_is;
    }
