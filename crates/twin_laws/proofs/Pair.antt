-- LBLT of [x / x x], for every f64 x: the whole answer. Assumes nothing.
use mathlib.Core.Path.{◌≡◌, refl, ◌∙◌, ap}
use mathlib.Core.Bool.{Bool, true, false, cond, ◌&&◌, true≢false}
use mathlib.Core.List.{List, [], ◌∷◌}
use Prim.Native.Nat.{ℕ, zero, suc, ◌*◌}
use native.Mathlib.Nat.{zero-mul}
use native.Mathlib.Omega.{arith}
use lib.IntN.{ℤ}
use lib.Dec.{T, eqb, ltb, lit<, lit≤}
use borrow.Author.Tests.{le-ltb}
use lib.Ieee.{Float, nan, inf, fin, binary64, of_bits, mul, lt, eq, fits, is_nan, up, down}
use Rattle.leaf.specs.Abs.{abs_of}
use Rattle.leaf.specs.Maximum.{maximum_of}
use Rattle.matrix.specs.Matrix.{Matrix}
use Rattle.matrix.specs.Loop.{turns, for}
use Rattle.pivots.specs.Words.{paired, marked, stamped}
use Rattle.matrix.specs.Rounded.{◌⊗◌, ◌⊘◌, plus_zero, one}
use Rattle.lblt_choice.specs.Choice.{α, column_max, choice_by, choose, contest, row_max}
use Rattle.lblt_choice.specs.declared.Choice.{Choice}
use Rattle.lblt_choice.specs.declared.Choice.TheVariants.{ZeroColumn, One}
use Rattle.lblt_pivot.specs.Interchange.{brought1}
use Rattle.lblt_pivot.specs.Pivot.{pivot1}
use Rattle.lblt.specs.Step.{State, first_mark, take, step, stepped}
use Rattle.lblt_pivot.specs.Update.{update1, eliminate1}
use Rattle.lblt.specs.Factor.{first_state, final_state, recorded}
use Rattle.lblt_pivot.proofs.Entries.{updated1}
use Rattle.lblt_choice.proofs.Range.{never_below}
use Rattle.twin_laws.proofs.Share.{share_not_above}
use Rattle.twin_laws.proofs.Lblt.{trail, in_place1}

-- ---- sizes of one number

either_way : {A : Type 0} (b : Bool) (y : A) → cond b y y ≡ y
either_way true y = refl
either_way false y = refl

maximum_same : (y : Float) → maximum_of y y ≡ y
unfolding maximum_of
maximum_same y = ap (λ (z : Float). cond (is_nan y) y (cond (is_nan y) y z)) (either_way (lt y y) y) ∙ ap (cond (is_nan y) y) (either_way (is_nan y) y) ∙ either_way (is_nan y) y

twice : (b : Bool) → (b && true) ≡ (b && b)
twice true = refl
twice false = refl

-- a size is zero exactly if the number is
size_zero : (x : Float) → eq (abs_of x) plus_zero ≡ eq x plus_zero
unfolding abs_of eq of_bits
size_zero nan = refl
size_zero (inf s) = refl
size_zero (fin false m e) = refl
size_zero (fin true m e) = rw (zero-mul (down e)) (twice (eqb (m * up e * 1) 0))

same_fits : (s : Bool) (m : ℕ) (e : ℤ) → T (fits binary64 (fin s (suc m) e)) → T (fits binary64 (fin false (suc m) e))
unfolding fits
same_fits s m e held = held

-- a size is not below its share
not_below_share : (x : Float) → T (fits binary64 x) → eq x plus_zero ≡ false → lt (abs_of x) (α ⊗ abs_of x) ≡ false
unfolding abs_of eq of_bits lt mul
not_below_share nan held other = refl
not_below_share (inf s) held other = refl
not_below_share (fin true zero e) held other = absurd (true≢false (simp zero-mul at other))
not_below_share (fin false zero e) held other = absurd (true≢false (simp zero-mul at other))
not_below_share (fin s (suc m) e) held other = share_not_above m e (same_fits s m e held)

-- ---- the two choices

-- what is taken for nothing: zero or NaN
unfoldable pub gone : Float → Bool
gone y = eq (maximum_of (abs_of y) plus_zero) plus_zero

gone_zero : (x : Float) → eq x plus_zero ≡ true → gone x ≡ true
unfolding gone maximum_of abs_of is_nan eq lt of_bits
gone_zero nan h = refl
gone_zero (inf s) h = h
gone_zero (fin s m e) h =
    ap (λ (b : Bool). eq (cond b plus_zero (fin false m e)) plus_zero) (ap (ltb (m * up e * 1)) (zero-mul (down e)) ∙ le-ltb (m * up e * 1) 0 (omega arith))
    ∙ size_zero (fin s m e) ∙ h

-- two equal sizes: nothing, or the diagonal
equal_sizes : (x : Float) → T (fits binary64 x) → (c : Choice) → cond (eq (maximum_of (abs_of x) (abs_of x)) plus_zero) ZeroColumn (cond (lt (abs_of x) (α ⊗ abs_of x)) c (One 0)) ≡ cond (eq x plus_zero) ZeroColumn (One 0)
equal_sizes x held c = rw (maximum_same (abs_of x), size_zero x) (pick (eq x plus_zero) refl)
  where
    pick : (b : Bool) → eq x plus_zero ≡ b → cond b ZeroColumn (cond (lt (abs_of x) (α ⊗ abs_of x)) c (One 0)) ≡ cond b ZeroColumn (One 0)
    pick true e = refl
    pick false e = rw (not_below_share x held e)

first_choice : (M : Matrix) (x : Float) → T (fits binary64 x) → M 0 0 ≡ x → M 1 0 ≡ x → choose 2 M 0 ≡ cond (eq x plus_zero) ZeroColumn (One 0)
unfolding choose choice_by column_max for turns
first_choice M x held corner side =
    ap (λ (y : Float). cond (eq (maximum_of (abs_of y) (abs_of (M 1 0))) plus_zero) ZeroColumn (cond (lt (abs_of y) (α ⊗ abs_of (M 1 0))) c (One 0))) corner
    ∙ ap (λ (y : Float). cond (eq (maximum_of (abs_of x) (abs_of y)) plus_zero) ZeroColumn (cond (lt (abs_of x) (α ⊗ abs_of y)) c (One 0))) side
    ∙ equal_sizes x held c
  where
    c : Choice
    c = contest M 0 (record { imax = 1; colmax = abs_of (M 1 0) }) (row_max 2 M 0 1)

last_choice : (N : Matrix) → choose 2 N 1 ≡ cond (gone (N 1 1)) ZeroColumn (One 1)
unfolding choose choice_by column_max gone
last_choice N =
    ap (λ (b : Bool). cond (eq (maximum_of (abs_of (N 1 1)) plus_zero) plus_zero) ZeroColumn (cond b (contest N 1 (record { imax = 0; colmax = plus_zero }) (row_max 2 N 1 0)) (One 1))) (never_below (N 1 1))

-- ---- the whole answer

-- no rows are left after row 1
last_pivot : (N : Matrix) → pivot1 2 1 1 N ≡ N
unfolding pivot1 brought1 update1 eliminate1 for turns
last_pivot N = refl

module _ (M : Matrix) (x : Float) (held : T (fits binary64 x)) (corner : M 0 0 ≡ x) (side : M 1 0 ≡ x) (end : M 1 1 ≡ x) (run : ℕ) (v w : ℕ) (a b c d : ℕ) where
  abbrev pub words : List ℕ
  words = v ∷ w ∷ a ∷ b ∷ c ∷ d ∷ []

  -- the state after a first choice, and after both
  after : Choice → State
  after first = take 2 (first_state M words) first

  both : (first last : Choice) → choose 2 M 0 ≡ first → choose 2 (after first).matrix 1 ≡ last → (after first).row ≡ 1 → final_state 2 M words ≡ take 2 (after first) last
  unfolding final_state stepped step after first_state
  both first last e f one-row =
      ap (λ (ch : Choice). stepped 1 2 (take 2 (first_state M words) ch)) e
      ∙ ap (λ (b : Bool). cond b (take 2 (after first) (choose 2 (after first).matrix (after first).row)) (after first)) (ap (λ (r : ℕ). ltb r 2) one-row)
      ∙ ap (λ (r : ℕ). take 2 (after first) (choose 2 (after first).matrix r)) one-row
      ∙ ap (take 2 (after first)) f

  recorded_by : (s : State) → final_state 2 M words ≡ s → recorded 2 run M words ≡ stamped 2 (marked 2 s.words s.mark) run
  unfolding recorded
  recorded_by s e = ap (λ (t : State). stamped 2 (marked 2 t.words t.mark) run) e

  -- x zero: both columns are null, the mark is row 0, and nothing is changed
  pub pair_zero : eq x plus_zero ≡ true → (recorded 2 run M words ≡ 0 ∷ 1 ∷ 1 ∷ 1 ∷ 1 ∷ run ∷ []) × ((final_state 2 M words).matrix ≡ M)
  unfolding after first_state take first_mark paired marked stamped
  pair_zero none =
      let first : choose 2 M 0 ≡ ZeroColumn = first_choice M x held corner side ∙ ap (λ (b : Bool). cond b ZeroColumn (One 0)) none in
      let last : choose 2 M 1 ≡ ZeroColumn = last_choice M ∙ ap (λ (b : Bool). cond b ZeroColumn (One 1)) (ap gone end ∙ gone_zero x none) in
      let is : final_state 2 M words ≡ take 2 (after ZeroColumn) ZeroColumn = both ZeroColumn ZeroColumn first last refl in
      (recorded_by (take 2 (after ZeroColumn) ZeroColumn) is, ap (λ (s : State). s.matrix) is)

  -- what is left of the second's diagonal
  left_over : pivot1 2 0 0 M 1 1 ≡ trail x x x x
  unfolding trail
  left_over =
      ap (λ (N : Matrix). N 1 1) (in_place1 2 0 M)
      ∙ (updated1 2 0 M).trailing 1 1 (lit< tt) (lit≤ tt) (lit< tt)
      ∙ rw (corner, side, end)

  by_left_over : (b : Bool) → choose 2 (pivot1 2 0 0 M) 1 ≡ cond b ZeroColumn (One 1) → choose 2 M 0 ≡ One 0
      → (recorded 2 run M words ≡ 0 ∷ 1 ∷ 1 ∷ 1 ∷ cond b 2 0 ∷ run ∷ []) × ((final_state 2 M words).matrix ≡ pivot1 2 0 0 M)
  unfolding after first_state take first_mark paired marked stamped
  by_left_over true last first =
      let is : final_state 2 M words ≡ take 2 (after (One 0)) ZeroColumn = both (One 0) ZeroColumn first last refl in
      (recorded_by (take 2 (after (One 0)) ZeroColumn) is, ap (λ (s : State). s.matrix) is)
  by_left_over false last first =
      let is : final_state 2 M words ≡ take 2 (after (One 0)) (One 1) = both (One 0) (One 1) first last refl in
      (recorded_by (take 2 (after (One 0)) (One 1)) is, ap (λ (s : State). s.matrix) is ∙ last_pivot (pivot1 2 0 0 M))

  -- any other x: a pivot of size 1 in its place, and the mark is row 1 if nothing is left
  pub pair_other : eq x plus_zero ≡ false → (recorded 2 run M words ≡ 0 ∷ 1 ∷ 1 ∷ 1 ∷ cond (gone (trail x x x x)) 2 0 ∷ run ∷ []) × ((final_state 2 M words).matrix ≡ pivot1 2 0 0 M)
  pair_other some =
      by_left_over (gone (trail x x x x))
      (last_choice (pivot1 2 0 0 M) ∙ ap (λ (y : Float). cond (gone y) ZeroColumn (One 1)) left_over)
      (first_choice M x held corner side ∙ ap (λ (b : Bool). cond b ZeroColumn (One 0)) some)

  -- the factor's entries then: x, x·(1/x), x + (x·(−1/x))·x
  pub pair_entries : (pivot1 2 0 0 M 0 0 ≡ x) × ((pivot1 2 0 0 M 1 0 ≡ x ⊗ (one ⊘ x)) × (pivot1 2 0 0 M 1 1 ≡ trail x x x x))
  pair_entries = (
    ap (λ (N : Matrix). N 0 0) (in_place1 2 0 M) ∙ (updated1 2 0 M).pivot ∙ corner,
    (ap (λ (N : Matrix). N 1 0) (in_place1 2 0 M) ∙ (updated1 2 0 M).column 1 (lit< tt) (lit< tt) ∙ rw (corner, side), left_over),
  )
