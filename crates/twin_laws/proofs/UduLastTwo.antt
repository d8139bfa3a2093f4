-- UDU and twins in the last two rows: what every call that meets the promise of `udu::factor` answers and leaves. Assumes nothing.
--     udu_last_two         refused at the second twin, at the first, or at neither: by x alone, the entries where they meet
--     one_means_refused    refused at the first where (1/x)·x is 1
--     left_at_first        what a call refused at the first leaves
--     udu_two              order 2: the whole answer
--     twins_meet           the rows of a pair n − 2, n − 1 of `first_twin` meet in one number
use Rattle.std.specs.Prelude.{Err}
use mathlib.Core.Path.{◌≡◌, refl, sym, ◌∙◌, ap, ap₂, subst}
use mathlib.Core.Bool.{Bool, true, false, cond, true≢false}
use mathlib.Core.List.{List}
use Prim.Native.Nat.{ℕ, zero, suc, ◌+◌, ◌-◌, ◌*◌, ◌≤◌, ◌<◌}
use native.Mathlib.Nat.{zero-mul, mul-one, mul-pos, zero-lt-suc}
use native.Mathlib.Omega.{arith}
use lib.IntN.{ℤ}
use lib.Dec.{T}
use lib.ListN.{get_or}
use borrow.Author.Tests.{eq-eqb, ne_eqb, le-leb}
use lib.Ieee.{Float, nan, inf, fin, binary64, of_bits, mul, div, eq, fits, is_nan, up}
use lib.Ieee.Fits.{up_pos}
use Rattle.answer.specs.declared.Refusal.TheVariants.{ZeroDiagonal}
use Rattle.answer.specs.Answer.{Answer, Done}
use Rattle.matrix.specs.Matrix.{Matrix}
use Rattle.matrix.specs.Loop.{for, falling}
use Rattle.matrix.specs.Grid.{load}
use Rattle.matrix.specs.Layouts.{upper, square}
use Rattle.matrix.specs.Rounded.{◌⊕◌, ◌⊖◌, ◌⊗◌, ◌⊘◌, plus_zero, one}
use Rattle.matrix.proofs.Loops.{for_one, Fell, fell_none, fell_more}
use Rattle.matrix.proofs.Places.{square_at}
use Rattle.udu.specs.Columns.{Factors, nothing, plus_square, square_sum, udu_diagonal, last_entry, udu_entry, with_diagonal, with_column, UduRun, accepted, refused, column_by, udu_column, udu_columns}
use Rattle.udu.specs.Promise.{UduSized, udu_of, udu_answer, factors_of, Holding, UduFactored}
use Rattle.udu.proofs.Holding.{cell}
use Rattle.udu.proofs.Reached.{refused_stays}
use Rattle.udu.proofs.Sizes.{columned}
use Rattle.udu_tail.specs.Tail.{Past, finished, refused_before}
use Rattle.udu_tail.proofs.Past.{not_from, past_more}
use Rattle.twins.specs.Twins.{Twins}
use Rattle.twins.proofs.Clauses.{Lower, lower_of_twins}
use Rattle.twin_laws.proofs.Exact.{times_one, zero_plus, less_itself}

-- the last two rows of the upper part of p are twins where they meet: three entries x
pub record LastTwins (n : ℕ) (p : List Float) (x : Float) : Type 0 where
  pub two : 2 ≤ n
  pub first : load (upper n) p (n - 2) (n - 2) ≡ x
  pub beside : load (upper n) p (n - 2) (n - 1) ≡ x
  pub second : load (upper n) p (n - 1) (n - 1) ≡ x

-- what UDU then finds as u(n−2, n−1), which is (1/x)·x, and as d(n−2)
unfoldable pub side : Float → Float
side x = (one ⊘ x) ⊗ x

unfoldable pub rest : Float → Float
unfolding side
rest x = x ⊖ (plus_zero ⊕ x ⊗ (side x ⊗ side x))

-- by x alone: refused at the second twin, at the first, or at neither
pub record Decided (n : ℕ) (x : Float) (r : Answer) : Type 0 where
  pub second : eq x plus_zero ≡ true → r ≡ Err (ZeroDiagonal (n - 1))
  pub first : eq x plus_zero ≡ false → eq (rest x) plus_zero ≡ true → r ≡ Err (ZeroDiagonal (n - 2))
  pub neither : eq x plus_zero ≡ false → eq (rest x) plus_zero ≡ false → Past (n - 2) r

-- refused at the first: in d stands x, before it the zero found, before that zeros; in u the last column, (1/x)·p, and zeros
pub record LeftAtFirst (n : ℕ) (p : List Float) (x : Float) (u d : List Float) : Type 0 where
  pub second : get_or d (n - 1) nan ≡ x
  pub first : get_or d (n - 2) nan ≡ rest x
  pub before : (k : ℕ) → k < n - 2 → get_or d k nan ≡ plus_zero
  pub column : (i : ℕ) → i < n → load (square n) u i (n - 1) ≡ (one ⊘ x) ⊗ load (upper n) p i (n - 1)
  pub clear : (i k : ℕ) → i < n → k < n - 1 → load (square n) u i k ≡ plus_zero

-- ---- the columns of a matrix with such rows

module _ (n : ℕ) (p : List Float) (x : Float) (twins : LastTwins n p x) where
  abbrev P : Matrix
  P = load (upper n) p

  -- the last two columns
  abbrev last_two : UduRun
  last_two = udu_column n P (n - 2) (udu_column n P (n - 1) (accepted nothing))

  two_done : Fell n (udu_column n P) (accepted nothing) (n - 2) last_two
  two_done =
      let second : 0 < n = omega (arith, twins.two) in
      let first : 0 < n - 1 = omega (arith, twins.two) in
      let place : n - 1 - 1 ≡ n - 2 = omega arith in
      subst (λ (k : ℕ). Fell n (udu_column n P) (accepted nothing) k (udu_column n P k (udu_column n P (n - 1) (accepted nothing)))) place
      (fell_more (fell_more fell_none second refl) first refl)

  -- what is found once the last column is accepted
  last_found : Factors
  last_found = with_column (with_diagonal nothing (n - 1) x) (n - 1) (udu_entry n P nothing x (n - 1))

  last : n - 1 + 1 ≡ n
  last = omega (arith, twins.two)

  -- the one column behind n − 2
  behind : n - 2 + 1 ≡ n - 1
  behind = omega (arith, twins.two)

  at_last : udu_diagonal n P nothing (n - 1) ≡ x
  unfolding udu_diagonal
  at_last = rw (eq-eqb (n - 1 + 1) n last) twins.second

  at_second : last_found.d (n - 2 + 1) ≡ x
  unfolding last_found with_column with_diagonal
  at_second = simp (eq-eqb (n - 2 + 1) (n - 1) behind)

  at_side : last_found.u (n - 2) (n - 2 + 1) ≡ side x
  unfolding last_found with_column with_diagonal udu_entry last_entry side
  at_side = simp (eq-eqb (n - 2 + 1) (n - 1) behind, le-leb (n - 2) (n - 1) (omega arith), eq-eqb (n - 1 + 1) n last, twins.beside)

  one_term : square_sum n last_found (n - 2) ≡ plus_zero ⊕ x ⊗ (side x ⊗ side x)
  unfolding square_sum
  one_term =
      let upto : n ≡ n - 2 + 1 + 1 = omega (arith, twins.two) in
      ap (λ (hi : ℕ). for (n - 2 + 1) hi (plus_square last_found (n - 2)) plus_zero) upto
      ∙ for_one (n - 2 + 1) (plus_square last_found (n - 2)) plus_zero
      ∙ ap₂ (λ (y z : Float). plus_zero ⊕ y ⊗ (z ⊗ z)) at_second at_side

  at_first : udu_diagonal n P last_found (n - 2) ≡ rest x
  unfolding udu_diagonal rest
  at_first =
      rw (ne_eqb (n - 2 + 1) n (λ (e : n - 2 + 1 ≡ n). omega (arith, twins.two))) (ap₂ (λ (y z : Float). y ⊖ z) twins.first one_term)

  -- two columns, by the test of the last one, and by both
  by_last : (b : Bool) → eq x plus_zero ≡ b → last_two ≡ udu_column n P (n - 2) (column_by n P nothing (n - 1) x b)
  unfolding udu_column
  by_last b e =
      ap (udu_column n P (n - 2))
      (ap (λ (y : Float). column_by n P nothing (n - 1) y (eq y plus_zero)) at_last ∙ ap (column_by n P nothing (n - 1) x) e)

  by_both : (b : Bool) → eq x plus_zero ≡ false → eq (rest x) plus_zero ≡ b → last_two ≡ column_by n P last_found (n - 2) (rest x) b
  unfolding udu_column last_found
  by_both b e f =
      by_last false e
      ∙ ap (λ (y : Float). column_by n P last_found (n - 2) y (eq y plus_zero)) at_first
      ∙ ap (column_by n P last_found (n - 2) (rest x)) f

  stays : {j : ℕ} {F : Factors} → last_two ≡ refused j F → udu_of n p ≡ refused j F
  unfolding udu_of udu_columns
  stays {j} {F} e = sym two_done.left ∙ ap (falling (n - 2) (udu_column n P)) e ∙ refused_stays n P (n - 2) j F

  refused_second : eq x plus_zero ≡ true → udu_of n p ≡ refused (n - 1) (with_diagonal nothing (n - 1) x)
  unfolding udu_column
  refused_second e = stays (by_last true e)

  refused_first : eq x plus_zero ≡ false → eq (rest x) plus_zero ≡ true → udu_of n p ≡ refused (n - 2) (with_diagonal last_found (n - 2) (rest x))
  refused_first e f = stays (by_both true e f)

  past_both : eq x plus_zero ≡ false → eq (rest x) plus_zero ≡ false → Past (n - 2) (udu_answer (udu_of n p))
  unfolding udu_of udu_columns
  past_both e f =
      subst (λ (R : UduRun). Past (n - 2) (udu_answer R)) two_done.left
      (past_more n P (n - 2) last_two (subst (λ (R : UduRun). Past (n - 2) (udu_answer R)) (sym (by_both false e f)) finished))

  left_by : {u d : List Float} → Holding n (with_diagonal last_found (n - 2) (rest x)) u d → LeftAtFirst n p x u d
  unfolding last_found with_diagonal with_column nothing udu_entry last_entry
  left_by {u} h = record {
    second = h.diagonal.cells (n - 1) (omega arith) ∙ simp (ne_eqb (n - 1) (n - 2) (λ e. omega arith), eq-eqb (n - 1) (n - 1) refl);
    first = h.diagonal.cells (n - 2) (omega arith) ∙ simp (eq-eqb (n - 2) (n - 2) refl);
    before = λ k less. h.diagonal.cells k (omega arith) ∙ simp (ne_eqb k (n - 2) (λ e. omega arith), ne_eqb k (n - 1) (λ e. omega arith));
    column = λ i row.
        square_at n u i (n - 1) row (omega arith) ∙ cell _ h.upper i (n - 1) row (omega arith)
        ∙ simp (eq-eqb (n - 1) (n - 1) refl, le-leb i (n - 1) (omega arith), eq-eqb (n - 1 + 1) n last);
    clear = λ i k row less. square_at n u i k row (omega arith) ∙ cell _ h.upper i k row (omega arith) ∙ simp (ne_eqb k (n - 1) (λ e. omega arith));
  }

-- ---- (1/x)·x is 1

module _ (s : Bool) (m : ℕ) (e : ℤ) where
  not_zero : eq (fin s (suc m) e) plus_zero ≡ false
  unfolding eq of_bits
  not_zero =
      let some : 0 < suc m * up e = mul-pos (zero-lt-suc m) (up_pos e) in
      simp (zero-mul, mul-one, ne_eqb (suc m * up e) 0 (λ none. omega arith))

  nothing_left : T (fits binary64 (fin s (suc m) e)) → side (fin s (suc m) e) ≡ one → eq (rest (fin s (suc m) e)) plus_zero ≡ true
  unfolding rest of_bits eq fits
  nothing_left held back =
      let x = fin s (suc m) e in
      rw (back, times_one binary64 one tt, times_one binary64 x held, zero_plus binary64 s m e held, less_itself binary64 s (suc m) e)

-- then x is finite and not zero, and nothing is left
by_one : (x : Float) → T (fits binary64 x) → side x ≡ one → (eq x plus_zero ≡ false) × (eq (rest x) plus_zero ≡ true)
unfolding side of_bits is_nan mul div
by_one nan held back = absurd (true≢false (ap is_nan back))
by_one (inf s) held back = absurd (true≢false (ap is_nan back))
by_one (fin s zero e) held back = absurd (true≢false (ap is_nan back))
by_one (fin s (suc m) e) held back = (not_zero s m e, nothing_left s m e held back)

-- ---- calls

module _ {p u₀ d₀ u d : List Float} {n : ℕ} {x : Float} {r : Answer} (allowed : UduSized n p u₀ d₀) (twins : LastTwins n p x) (call : UduFactored p u₀ d₀ n r u d) where
  pub udu_last_two : Decided n x r
  udu_last_two = record {
    second = λ e. answered ∙ ap udu_answer (refused_second n p x twins e);
    first = λ e f. answered ∙ ap udu_answer (refused_first n p x twins e f);
    neither = λ e f. subst (Past (n - 2)) (sym answered) (past_both n p x twins e f);
  }
    where
      answered : r ≡ udu_answer (udu_of n p)
      answered = (columned allowed call).answer

  -- x an f64; it is then finite and not zero
  pub one_means_refused : T (fits binary64 x) → side x ≡ one → r ≡ Err (ZeroDiagonal (n - 2))
  one_means_refused held back = let tests = by_one x held back in udu_last_two.first tests.0 tests.1

  -- only these tests refuse the first
  first_only : r ≡ Err (ZeroDiagonal (n - 2)) → (eq x plus_zero ≡ false) × (eq (rest x) plus_zero ≡ true)
  first_only is = by (eq x plus_zero) (eq (rest x) plus_zero) refl refl
    where
      by : (b c : Bool) → eq x plus_zero ≡ b → eq (rest x) plus_zero ≡ c → (eq x plus_zero ≡ false) × (eq (rest x) plus_zero ≡ true)
      by true c e f = absurd (let same : n - 1 ≡ n - 2 = cc (udu_last_two.second e) in omega arith)
      by false true e f = (e, f)
      by false false e f = absurd (not_from (udu_last_two.neither e f) (omega arith) is)

  pub left_at_first : r ≡ Err (ZeroDiagonal (n - 2)) → LeftAtFirst n p x u d
  left_at_first is =
      let tests = first_only is in
      left_by n p x twins (subst (λ (R : UduRun). Holding n (factors_of R) u d) (refused_first n p x twins tests.0 tests.1) (columned allowed call).slices)

pub udu_two : {p u₀ d₀ u d : List Float} {x : Float} {r : Answer} → UduSized 2 p u₀ d₀ → LastTwins 2 p x → UduFactored p u₀ d₀ 2 r u d
    → r ≡ cond (eq x plus_zero) (Err (ZeroDiagonal 1)) (cond (eq (rest x) plus_zero) (Err (ZeroDiagonal 0)) Done)
udu_two {x = x} {r = r} allowed twins call = by (eq x plus_zero) (eq (rest x) plus_zero) refl refl
  where
    decided : Decided 2 x r
    decided = udu_last_two allowed twins call

    past_all : {a : Answer} → Past 0 a → a ≡ Done
    past_all finished = refl
    past_all (refused_before less) = absurd (omega arith)

    by : (b c : Bool) → eq x plus_zero ≡ b → eq (rest x) plus_zero ≡ c → r ≡ cond b (Err (ZeroDiagonal 1)) (cond c (Err (ZeroDiagonal 0)) Done)
    by true c e f = decided.second e
    by false true e f = decided.first e f
    by false false e f = past_all (decided.neither e f)

-- M is the lower part of the same matrix, in which `first_twin` looks
pub twins_meet : (n : ℕ) (M : Matrix) (p : List Float) → 2 ≤ n → ((i j : ℕ) → i ≤ j → j < n → load (upper n) p i j ≡ M j i) → Twins n M (n - 2) (n - 1) → LastTwins n p (M (n - 1) (n - 1))
twins_meet n M p two mirror twins = record {
  two = two;
  first = mirror (n - 2) (n - 2) (omega arith) (omega arith) ∙ sym same.diagonal;
  beside = mirror (n - 2) (n - 1) (omega arith) (omega arith) ∙ same.left (n - 2) (omega arith) ∙ sym same.diagonal;
  second = mirror (n - 1) (n - 1) (omega arith) (omega arith);
}
  where
    same : Lower n M (n - 2) (n - 1)
    same = lower_of_twins n M (n - 2) (n - 1) (omega arith) (omega arith) twins
