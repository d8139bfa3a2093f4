-- The code and the place of an answer come back from the number that goes across: every place is at most 1,024, in any layout.
-- Assumes nothing.
use Rattle.std.proofs.Common.{Result, Option, None, Some, Ok, Err, true, List, ◌≡◌, refl, sym, ap, ◌∙◌, subst, ℕ, ◌+◌, ◌/◌, ◌%◌, ◌<◌, arith, ℤ, Float}
use Rattle.answer.specs.declared.Refusal.{Refusal}
use Rattle.answer.specs.Answer.{answer_of, is_done}
use Rattle.answer.specs.Number.{code_of, place_of, number_of}
use Rattle.answer.proofs.Back.{code_back, place_back}
use Rattle.answer.proofs.Within.{Within}
use Rattle.matrix.specs.declared.Layout.{Layout}
use Rattle.pivots_lapack.specs.declared.Stamp.{Stamp}
use Rattle.lblt_tray.specs.Tray.{ItemAt, number_at}
use Rattle.handheld.specs.declared.Column3.{Column3}
use Rattle.handheld.specs.declared.Pivots3.{Pivots3}
use Rattle.twins.specs.declared.Pair.{Pair}
use Rattle.twins.specs.First.{Found}
use Rattle.twins.specs.Number.{twin_number}
use Rattle.urgyelpat.specs.declared.Determined.{Determined}
use Rattle.urgyelpat.specs.declared.Listed.{Listed}
use Rattle.urgyelpat.specs.declared.Floored.{Floored}
use Rattle.urgyelpat.specs.declared.Matrix3.{Matrix3}
use Rattle.urgyelpat.specs.declared.Solved3.{Solved3}
use Rattle.urgyelpat.specs.Passed.{determined_of, listed_of}
use Rattle.urgyelpat.specs.Calls.{HandheldSolve}
use Rattle.urgyelpat.specs.Calls.{FactorOn, SolveOn, DeterminantOn, ExtendOn, SolveTrianglesOn, FirstTwinPairOn}
use Rattle.urgyelpat.specs.Calls.{LbltSolveBench, LbltTray, LbltD, LbltLPermuted}
use Rattle.urgyelpat.specs.Calls.{PivotsFromLapack, PivotsToLapack}
use Rattle.urgyelpat.specs.Calls.{CholeskyExtendFloored, CholeskyTeaching, CholeskyL, CholeskyUnpack, CholeskyDeterminant}
use Rattle.urgyelpat.specs.Calls.{UduFactor, PackedCholeskyExtend}
use Rattle.urgyelpat.proofs.FactorPlaces as lblt
use Rattle.urgyelpat.proofs.ReaderPlaces as readers
use Rattle.urgyelpat.proofs.ListPlaces.{read_within, written_within}
use Rattle.urgyelpat.proofs.CholeskyPlaces as cholesky
use Rattle.urgyelpat.proofs.UduPlaces as udu
use Rattle.urgyelpat.proofs.TwinPlaces.{Small, twin_small}

pub record Back {A : Type 0} (answer : Result A Refusal) (r : ℕ) : Type 0 where
  pub code : r / 4096 ≡ code_of answer
  pub place : r % 4096 ≡ place_of answer

number_back : {A : Type 0} {answer : Result A Refusal} {r : ℕ} → r ≡ number_of answer → Within 1024 answer → Back answer r
number_back {answer = answer} e within =
    let small : place_of answer < 4096 = omega (arith, within) in
    subst (Back answer) (sym e) (record { code = code_back answer small; place = place_back answer small })

-- ---- the number beside what is handed back

determined_number : (v : Result Float Refusal) → (determined_of v).answer ≡ number_of v
determined_number (Ok value) = refl
determined_number (Err refusal) = refl

determined_back : {v : Result Float Refusal} {d : Determined} → d ≡ determined_of v → Within 1024 v → Back v d.answer
determined_back {v} is within = number_back (ap (λ (d : Determined). d.answer) is ∙ determined_number v) within

listed_number : (r : Result Stamp Refusal) → (listed_of r).answer ≡ number_of r
listed_number (Ok stamp) = refl
listed_number (Err refusal) = refl

-- ---- LBLT

module _ {y : Layout} {run : ℕ} {a : List Float} {words : List ℕ} where
  pub lblt_factor_back : {r : ℕ} {a' : List Float} {words' : List ℕ} (c : FactorOn y run a words r a' words') → Back c.below r
  lblt_factor_back c = number_back c.result (lblt.factored_within c.given)

  pub lblt_solve_back : {columns : ℕ} {b b' : List Float} {r : ℕ} (c : SolveOn y columns run a words b r b') → Back c.below r
  lblt_solve_back c = number_back c.result (readers.solved_within c.given)

  pub lblt_determinant_back : {r : Determined} (c : DeterminantOn y run a words r) → Back c.below r.answer
  lblt_determinant_back c = determined_back c.result (readers.determined_within c.given)

-- a tray: its own answer, and each item's
module _ {n count : ℕ} {a : List Float} {words : List ℕ} {b : List Float} {runs answers : List ℕ} {r : ℕ} {a' : List Float} {words' : List ℕ} {b' : List Float} {answers' : List ℕ}
    (c : LbltTray n count a words b runs answers r a' words' b' answers')
  where
    pub lblt_tray_back : Back c.below r
    lblt_tray_back = number_back c.result (readers.tray_within c.given)

    module _ (done : is_done c.below ≡ true) (t : ℕ) (below : t < count) where
      abbrev item : ItemAt n a words b runs a' words' b' answers' t
      item = (c.given.left.done done).items t below

      pub lblt_tray_item_back : Back item.answer (number_at t answers')
      lblt_tray_item_back = number_back item.numbered (readers.solved_within item.solve)

module _ {n run : ℕ} {a : List Float} {words : List ℕ} where
  pub lblt_solve_bench_back : {columns bench : ℕ} {b b' : List Float} {benches : List ℕ} {r : ℕ} (c : LbltSolveBench n columns bench run a words b benches r b') → Back c.below r
  lblt_solve_bench_back c = number_back c.result (readers.bench_within c.given)

  pub lblt_d_back : {d d' : List Float} {r : ℕ} (c : LbltD n run a words d r d') → Back c.below r
  lblt_d_back c = number_back c.result (readers.filled_within c.given)

  pub lblt_l_permuted_back : {l l' : List Float} {r : ℕ} (c : LbltLPermuted n run a words l r l') → Back c.below r
  lblt_l_permuted_back c = number_back c.result (readers.filled_within c.given)

-- ---- LBLT by value

within_value : {A : Type 0} (k : ℕ) (r : Result A Refusal) → Within k (answer_of r) → Within k r
within_value k (Ok x) within = within
within_value k (Err refusal) within = within

pub handheld_solve_back : {matrix : Matrix3} {pivots : Pivots3} {side : Column3} {r : Solved3} (c : HandheldSolve matrix pivots side r) → Back c.below r.answer
handheld_solve_back c = number_back (ap (λ (s : Solved3). s.answer) c.result) (within_value 1024 c.below (readers.solved_within (c.given.lent 0)))

-- ---- LAPACK pivot lists

pub pivots_from_lapack_back
    : {n run : ℕ} {list : List ℤ} {info : ℤ} {words words' : List ℕ} {r : ℕ} (c : PivotsFromLapack n run list info words r words') → Back c.below r
pivots_from_lapack_back c = number_back c.result (read_within c.given)

pub pivots_to_lapack_back : {n : ℕ} {words : List ℕ} {list list' : List ℤ} {r : Listed} (c : PivotsToLapack n words list r list') → Back c.below r.answer
pivots_to_lapack_back c = number_back (ap (λ (l : Listed). l.answer) c.result ∙ listed_number c.below) (written_within c.given)

-- ---- Cholesky

module _ {y : Layout} {a : List Float} where
  pub cholesky_extend_back : {m r : ℕ} {a' : List Float} (c : ExtendOn y m a r a') → Back c.below r
  cholesky_extend_back c = number_back c.result (cholesky.extended_within c.given)

  pub cholesky_solve_back : {columns : ℕ} {b b' : List Float} {r : ℕ} (c : SolveTrianglesOn y columns a b r b') → Back c.below r
  cholesky_solve_back c = number_back c.result (cholesky.solved_within c.given)

module _ {room n : ℕ} {a : List Float} where
  pub cholesky_extend_floored_back : {m : ℕ} {floor : Float} {r : Floored} {a' : List Float} (c : CholeskyExtendFloored room m n floor a r a') → Back c.below.answer r.answer
  cholesky_extend_floored_back c = number_back (ap (λ (f : Floored). f.answer) c.result) (cholesky.floored_within c.given)

  pub cholesky_teaching_back : {r : ℕ} {a' : List Float} (c : CholeskyTeaching room n a r a') → Back c.below r
  cholesky_teaching_back c = number_back c.result (cholesky.taught_within c.given)

  pub cholesky_l_back : {l l' : List Float} {r : ℕ} (c : CholeskyL room n a l r l') → Back c.below r
  cholesky_l_back c = number_back c.result (cholesky.copied_within c.given)

  pub cholesky_unpack_back : {r : ℕ} {a' : List Float} (c : CholeskyUnpack room n a r a') → Back c.below r
  cholesky_unpack_back c = number_back c.result (cholesky.unpacked_within c.given)

  pub cholesky_determinant_back : {r : Determined} (c : CholeskyDeterminant room n a r) → Back c.below r.answer
  cholesky_determinant_back c = determined_back c.result (cholesky.determined_within c.given)

-- ---- UDU

pub udu_factor_back : {n : ℕ} {p u u' d d' : List Float} {r : ℕ} (c : UduFactor n p u d r u' d') → Back c.below r
udu_factor_back c = number_back c.result (udu.factored_within c.given)

-- ---- twins

-- none, a pair of rows or a refusal, each from its own numbers
abbrev pub TwinBack : Found → ℕ → Type 0
TwinBack (Ok None) r = r ≡ 0
TwinBack (Ok (Some rows)) r = (r / 4096 ≡ 4096 + rows.second) × (r % 4096 ≡ rows.first)
TwinBack (Err refusal) r = Back {A = Option Pair} (Err refusal) r

twin_back : {r : ℕ} (t : Found) → r ≡ twin_number t → Small t → TwinBack t r
twin_back (Ok None) e small = e
twin_back (Ok (Some rows)) e small = (omega (arith, e, small), omega (arith, e, small))
twin_back (Err refusal) e small = number_back e small

pub first_twin_back : {y : Layout} {m : ℕ} {a : List Float} {r : ℕ} (c : FirstTwinPairOn y m a r) → TwinBack c.below r
first_twin_back {y} {m} {a} c = twin_back c.below c.result (twin_small y m a c.given)

-- ---- the packed further batch

pub packed_cholesky_extend_back : {m n : ℕ} {old rows fresh fresh' : List Float} {r : ℕ} (c : PackedCholeskyExtend m n old rows fresh r fresh') → Back c.below r
packed_cholesky_extend_back c = number_back c.result (cholesky.grown_within c.given)
