-- Two results that meet the promise of an exported call on one input are equal, and so are the slices; for calls that both layouts have, of any layout.
-- Assumes nothing.
use Rattle.std.proofs.Common.{List, ◌≡◌, sym, ◌∙◌, ap, ℕ, ℤ, Float}
use Rattle.matrix.specs.declared.Layout.{Layout}
use Rattle.pivots_lapack.proofs.Once.{read_once, written_once}
use Rattle.lblt.proofs.Done as lblt
use Rattle.lblt_read.proofs.Once.{determined_once, filled_once}
use Rattle.lblt_solve.proofs.Once.{solved_once}
use Rattle.lblt_bench.proofs.Once.{bench_once}
use Rattle.lblt_tray.proofs.Unfelt.{tray_once}
use Rattle.cholesky.proofs.Promises.{extended_unique}
use Rattle.cholesky.proofs.FlooredPromises.{floored_unique}
use Rattle.cholesky.proofs.SolvePromises.{solved_unique}
use Rattle.cholesky.proofs.ReaderPromises.{determined_unique, copied_unique, unpacked_unique}
use Rattle.teaching.proofs.Promises.{taught_unique}
use Rattle.handheld.specs.declared.Column3.{Column3}
use Rattle.handheld.specs.declared.Pivots3.{Pivots3}
use Rattle.handheld.proofs.Promises.{factor_unique, solve_unique}
use Rattle.udu.proofs.Unique as udu
use Rattle.twins.proofs.Unique.{first_twin_on_unique}
use Rattle.packed.proofs.Growing.{grown_unique}
use Rattle.urgyelpat.specs.declared.Determined.{Determined}
use Rattle.urgyelpat.specs.declared.Listed.{Listed}
use Rattle.urgyelpat.specs.declared.Floored.{Floored}
use Rattle.urgyelpat.specs.Passed.{Passed}
use Rattle.urgyelpat.specs.Calls.{FactorOn, SolveOn, DeterminantOn, ExtendOn, SolveTrianglesOn, FirstTwinPairOn}
use Rattle.urgyelpat.specs.Calls.{LbltSolveBench, LbltTray, LbltD, LbltLPermuted}
use Rattle.urgyelpat.specs.Calls.{PivotsFromLapack, PivotsToLapack}
use Rattle.urgyelpat.specs.declared.Matrix3.{Matrix3}
use Rattle.urgyelpat.specs.declared.Factored3.{Factored3}
use Rattle.urgyelpat.specs.declared.Solved3.{Solved3}
use Rattle.urgyelpat.specs.Calls.{HandheldFactor, HandheldSolve}
use Rattle.urgyelpat.specs.Calls.{CholeskyExtendFloored, CholeskyTeaching, CholeskyL, CholeskyUnpack, CholeskyDeterminant}
use Rattle.urgyelpat.specs.Calls.{UduFactor, PackedCholeskyExtend}

-- what is given below is one, so its numbers are
passed_same : {A B : Type 0} {numbers : A → B} {G H : A → Type 0} {r s : B} (p : Passed numbers G r) (q : Passed numbers H s) → p.below ≡ q.below → r ≡ s
passed_same {numbers = numbers} p q e = p.result ∙ ap numbers e ∙ sym q.result

-- ---- LBLT

module _ {y : Layout} {run : ℕ} {a : List Float} {words : List ℕ} where
  pub lblt_factor_unique : {r s : ℕ} {a₁ a₂ : List Float} {words₁ words₂ : List ℕ} → FactorOn y run a words r a₁ words₁ → FactorOn y run a words s a₂ words₂ → (r ≡ s) × (a₁ ≡ a₂) × (words₁ ≡ words₂)
  lblt_factor_unique p q =
      let same = lblt.factored_unique p.given q.given in
      (passed_same p q same.answer, same.matrix, same.pivots)

  pub lblt_solve_unique : {columns : ℕ} {b b₁ b₂ : List Float} {r s : ℕ} → SolveOn y columns run a words b r b₁ → SolveOn y columns run a words b s b₂ → (r ≡ s) × (b₁ ≡ b₂)
  lblt_solve_unique p q =
      let same = solved_once p.given q.given in
      (passed_same p q same.0, same.1)

  pub lblt_determinant_unique : {r s : Determined} → DeterminantOn y run a words r → DeterminantOn y run a words s → r ≡ s
  lblt_determinant_unique p q = passed_same p q (determined_once p.given q.given)

pub lblt_tray_unique
    : {n count : ℕ} {a : List Float} {words : List ℕ} {b : List Float} {runs answers : List ℕ} {r s : ℕ} {a₁ a₂ : List Float} {words₁ words₂ : List ℕ} {b₁ b₂ : List Float} {answers₁ answers₂ : List ℕ}
    → LbltTray n count a words b runs answers r a₁ words₁ b₁ answers₁ → LbltTray n count a words b runs answers s a₂ words₂ b₂ answers₂
    → (r ≡ s) × (a₁ ≡ a₂) × (words₁ ≡ words₂) × (b₁ ≡ b₂) × (answers₁ ≡ answers₂)
lblt_tray_unique p q =
    let same = tray_once p.given q.given in
    (passed_same p q same.answer, same.matrices, same.records, same.sides, same.answered)

module _ {n run : ℕ} {a : List Float} {words : List ℕ} where
  pub lblt_solve_bench_unique
      : {columns bench : ℕ} {b b₁ b₂ : List Float} {benches : List ℕ} {r s : ℕ}
      → LbltSolveBench n columns bench run a words b benches r b₁ → LbltSolveBench n columns bench run a words b benches s b₂
      → (r ≡ s) × (b₁ ≡ b₂)
  lblt_solve_bench_unique p q =
      let same = bench_once p.given q.given in
      (passed_same p q same.0, same.1)

  pub lblt_d_unique : {d d₁ d₂ : List Float} {r s : ℕ} → LbltD n run a words d r d₁ → LbltD n run a words d s d₂ → (r ≡ s) × (d₁ ≡ d₂)
  lblt_d_unique p q =
      let same = filled_once p.given q.given in
      (passed_same p q same.0, same.1)

  pub lblt_l_permuted_unique : {l l₁ l₂ : List Float} {r s : ℕ} → LbltLPermuted n run a words l r l₁ → LbltLPermuted n run a words l s l₂ → (r ≡ s) × (l₁ ≡ l₂)
  lblt_l_permuted_unique p q =
      let same = filled_once p.given q.given in
      (passed_same p q same.0, same.1)

-- ---- LBLT by value

module _ {matrix : Matrix3} where
  pub handheld_factor_unique : {r s : Factored3} → HandheldFactor matrix r → HandheldFactor matrix s → r ≡ s
  handheld_factor_unique p q = passed_same p q (factor_unique p.given q.given)

  pub handheld_solve_unique : {pivots : Pivots3} {side : Column3} {r s : Solved3} → HandheldSolve matrix pivots side r → HandheldSolve matrix pivots side s → r ≡ s
  handheld_solve_unique p q = passed_same p q (solve_unique p.given q.given)

-- ---- LAPACK pivot lists

pub pivots_from_lapack_unique
    : {n run : ℕ} {list : List ℤ} {info : ℤ} {words words₁ words₂ : List ℕ} {r s : ℕ}
    → PivotsFromLapack n run list info words r words₁ → PivotsFromLapack n run list info words s words₂
    → (r ≡ s) × (words₁ ≡ words₂)
pivots_from_lapack_unique p q =
    let same = read_once p.given q.given in
    (passed_same p q same.0, same.1)

pub pivots_to_lapack_unique
    : {n : ℕ} {words : List ℕ} {list list₁ list₂ : List ℤ} {r s : Listed} → PivotsToLapack n words list r list₁ → PivotsToLapack n words list s list₂
    → (r ≡ s) × (list₁ ≡ list₂)
pivots_to_lapack_unique p q =
    let same = written_once p.given q.given in
    (passed_same p q same.0, same.1)

-- ---- Cholesky

module _ {y : Layout} {a : List Float} where
  pub cholesky_extend_unique : {m r s : ℕ} {a₁ a₂ : List Float} → ExtendOn y m a r a₁ → ExtendOn y m a s a₂ → (r ≡ s) × (a₁ ≡ a₂)
  cholesky_extend_unique p q =
      let same = extended_unique p.given q.given in
      (passed_same p q same.0, same.1)

  pub cholesky_solve_unique : {columns : ℕ} {b b₁ b₂ : List Float} {r s : ℕ} → SolveTrianglesOn y columns a b r b₁ → SolveTrianglesOn y columns a b s b₂ → (r ≡ s) × (b₁ ≡ b₂)
  cholesky_solve_unique p q =
      let same = solved_unique p.given q.given in
      (passed_same p q same.0, same.1)

module _ {room n : ℕ} {a : List Float} where
  pub cholesky_extend_floored_unique
      : {m : ℕ} {floor : Float} {r s : Floored} {a₁ a₂ : List Float} → CholeskyExtendFloored room m n floor a r a₁ → CholeskyExtendFloored room m n floor a s a₂
      → (r ≡ s) × (a₁ ≡ a₂)
  cholesky_extend_floored_unique p q =
      let same = floored_unique p.given q.given in
      (passed_same p q same.0, same.1)

  pub cholesky_teaching_unique : {r s : ℕ} {a₁ a₂ : List Float} → CholeskyTeaching room n a r a₁ → CholeskyTeaching room n a s a₂ → (r ≡ s) × (a₁ ≡ a₂)
  cholesky_teaching_unique p q =
      let same = taught_unique room n p.given q.given in
      (passed_same p q same.0, same.1)

  pub cholesky_l_unique : {l l₁ l₂ : List Float} {r s : ℕ} → CholeskyL room n a l r l₁ → CholeskyL room n a l s l₂ → (r ≡ s) × (l₁ ≡ l₂)
  cholesky_l_unique p q =
      let same = copied_unique p.given q.given in
      (passed_same p q same.0, same.1)

  pub cholesky_unpack_unique : {r s : ℕ} {a₁ a₂ : List Float} → CholeskyUnpack room n a r a₁ → CholeskyUnpack room n a s a₂ → (r ≡ s) × (a₁ ≡ a₂)
  cholesky_unpack_unique p q =
      let same = unpacked_unique p.given q.given in
      (passed_same p q same.0, same.1)

  pub cholesky_determinant_unique : {r s : Determined} → CholeskyDeterminant room n a r → CholeskyDeterminant room n a s → r ≡ s
  cholesky_determinant_unique p q = passed_same p q (determined_unique p.given q.given)

-- ---- UDU and twins

pub udu_factor_unique : {n : ℕ} {p u u₁ u₂ d d₁ d₂ : List Float} {r s : ℕ} → UduFactor n p u d r u₁ d₁ → UduFactor n p u d s u₂ d₂ → (r ≡ s) × (u₁ ≡ u₂) × (d₁ ≡ d₂)
udu_factor_unique x y =
    let same = udu.factored_unique x.given y.given in
    (passed_same x y same.0, same.1, same.2)

pub first_twin_pair_unique : {y : Layout} {m : ℕ} {a : List Float} {r s : ℕ} → FirstTwinPairOn y m a r → FirstTwinPairOn y m a s → r ≡ s
first_twin_pair_unique {y} {m} {a} p q = passed_same p q (first_twin_on_unique y m a p.given q.given)

-- ---- the packed further batch

pub packed_cholesky_extend_unique
    : {m n : ℕ} {old rows fresh fresh₁ fresh₂ : List Float} {r s : ℕ}
    → PackedCholeskyExtend m n old rows fresh r fresh₁ → PackedCholeskyExtend m n old rows fresh s fresh₂
    → (r ≡ s) × (fresh₁ ≡ fresh₂)
packed_cholesky_extend_unique p q =
    let same = grown_unique p.given q.given in
    (passed_same p q same.0, same.1)
