-- What each exported call promises: the numbers of an answer that, with the slices at exit, meets the promise of the call below.
use Rattle.std.specs.Prelude.{List, ℕ, ℤ, Float}
use Rattle.answer.specs.Answer.{Answer}
use Rattle.answer.specs.Number.{number_of}
use Rattle.matrix.specs.declared.Layout.{Layout}
use Rattle.matrix.specs.Grid.{load}
use Rattle.matrix.specs.Layouts.{full, in_room, packed, lower}
use Rattle.pivots_lapack.specs.Calls.{ListRead, ListWritten}
use Rattle.lblt.specs.Factor as lblt
use Rattle.lblt_read.specs.Calls.{LbltDetermined, LbltFilled}
use Rattle.lblt_read.specs.Diagonal.{d_of}
use Rattle.lblt_read.specs.Permuted.{l_permuted_of}
use Rattle.lblt_solve.specs.Solve.{LbltSolved}
use Rattle.lblt_bench.specs.Bench.{BenchSolved}
use Rattle.lblt_tray.specs.Tray.{TraySolved}
use Rattle.handheld.specs.declared.Column3.{Column3}
use Rattle.handheld.specs.declared.Pivots3.{Pivots3}
use Rattle.handheld.specs.Promise.{FactoredByValue, SolvedByValue}
use Rattle.cholesky.specs.Promise.{Extended}
use Rattle.cholesky.specs.Floored.{ExtendedFloored}
use Rattle.cholesky.specs.Readers.{Copied, Unpacked, CholeskyDetermined}
use Rattle.cholesky.specs.Solve.{CholeskySolved}
use Rattle.teaching.specs.Promise.{Taught}
use Rattle.udu.specs.Promise as udu
use Rattle.twins.specs.First.{FirstTwinOn}
use Rattle.twins.specs.Number.{twin_number}
use Rattle.packed.specs.Growing.{Grown}
use Rattle.urgyelpat.specs.Passed.{Passed, determined_of, listed_of, floored_of, factored3_of, solved3_of}
use Rattle.urgyelpat.specs.declared.Determined.{Determined}
use Rattle.urgyelpat.specs.declared.Listed.{Listed}
use Rattle.urgyelpat.specs.declared.Floored.{Floored}
use Rattle.urgyelpat.specs.declared.Matrix3.{Matrix3}
use Rattle.urgyelpat.specs.declared.Factored3.{Factored3}
use Rattle.urgyelpat.specs.declared.Solved3.{Solved3}

-- ---- over a layout

abbrev pub FactorOn : Layout → ℕ → List Float → List ℕ → ℕ → List Float → List ℕ → Type 0
FactorOn y run a words r a' words' = Passed number_of (λ (answer : Answer). lblt.Factored y run a words answer a' words') r

abbrev pub SolveOn : Layout → ℕ → ℕ → List Float → List ℕ → List Float → ℕ → List Float → Type 0
SolveOn y columns run a words b r b' = Passed number_of (λ (answer : Answer). LbltSolved y columns run a words b answer b') r

abbrev pub DeterminantOn : Layout → ℕ → List Float → List ℕ → Determined → Type 0
DeterminantOn y run a words r = Passed determined_of (LbltDetermined y run a words) r

abbrev pub ExtendOn : Layout → ℕ → List Float → ℕ → List Float → Type 0
ExtendOn y earlier a r a' = Passed number_of (Extended y earlier a a') r

abbrev pub SolveTrianglesOn : Layout → ℕ → List Float → List Float → ℕ → List Float → Type 0
SolveTrianglesOn y columns a b r b' = Passed number_of (CholeskySolved y columns a b b') r

abbrev pub FirstTwinPairOn : Layout → ℕ → List Float → ℕ → Type 0
FirstTwinPairOn y earlier a r = Passed twin_number (FirstTwinOn y earlier a) r

-- ---- LBLT

abbrev pub LbltFactor : ℕ → ℕ → List Float → List ℕ → ℕ → List Float → List ℕ → Type 0
LbltFactor n = FactorOn (full n)

abbrev pub LbltSolve : ℕ → ℕ → ℕ → List Float → List ℕ → List Float → ℕ → List Float → Type 0
LbltSolve n = SolveOn (full n)

abbrev pub LbltSolveBench : ℕ → ℕ → ℕ → ℕ → List Float → List ℕ → List Float → List ℕ → ℕ → List Float → Type 0
LbltSolveBench n columns bench run a words b benches r b' = Passed number_of (λ (answer : Answer). BenchSolved (full n) columns bench run a words b benches answer b') r

abbrev pub LbltTray : ℕ → ℕ → List Float → List ℕ → List Float → List ℕ → List ℕ → ℕ → List Float → List ℕ → List Float → List ℕ → Type 0
LbltTray n count a words b runs answers r a' words' b' answers' =
    Passed number_of (λ (answer : Answer). TraySolved n count a words b runs answers answer a' words' b' answers') r

abbrev pub LbltDeterminant : ℕ → ℕ → List Float → List ℕ → Determined → Type 0
LbltDeterminant n = DeterminantOn (full n)

abbrev pub LbltD : ℕ → ℕ → List Float → List ℕ → List Float → ℕ → List Float → Type 0
LbltD n run a words d r d' = Passed number_of (λ (answer : Answer). LbltFilled (full n) run a words (d_of n (load (lower (full n)) a) words) d answer d') r

abbrev pub LbltLPermuted : ℕ → ℕ → List Float → List ℕ → List Float → ℕ → List Float → Type 0
LbltLPermuted n run a words l r l' = Passed number_of (λ (answer : Answer). LbltFilled (full n) run a words (l_permuted_of n (load (lower (full n)) a) words) l answer l') r

-- ---- LBLT of three unknowns, by value

abbrev pub HandheldFactor : Matrix3 → Factored3 → Type 0
HandheldFactor matrix r = Passed factored3_of (FactoredByValue matrix.column) r

abbrev pub HandheldSolve : Matrix3 → Pivots3 → Column3 → Solved3 → Type 0
HandheldSolve matrix pivots side r = Passed (solved3_of side) (SolvedByValue matrix.column pivots side) r

-- ---- LAPACK pivot lists

abbrev pub PivotsFromLapack : ℕ → ℕ → List ℤ → ℤ → List ℕ → ℕ → List ℕ → Type 0
PivotsFromLapack n run list info words r words' = Passed number_of (λ (answer : Answer). ListRead n run list info words answer words') r

abbrev pub PivotsToLapack : ℕ → List ℕ → List ℤ → Listed → List ℤ → Type 0
PivotsToLapack n words list r list' = Passed listed_of (λ listed. ListWritten n words list listed list') r

-- ---- Cholesky

abbrev pub CholeskyExtend : ℕ → ℕ → ℕ → List Float → ℕ → List Float → Type 0
CholeskyExtend room earlier n = ExtendOn (in_room n room) earlier

abbrev pub CholeskyExtendFloored : ℕ → ℕ → ℕ → Float → List Float → Floored → List Float → Type 0
CholeskyExtendFloored room earlier n floor a r a' = Passed floored_of (ExtendedFloored floor (in_room n room) earlier a a') r

abbrev pub CholeskyTeaching : ℕ → ℕ → List Float → ℕ → List Float → Type 0
CholeskyTeaching room n a r a' = Passed number_of (Taught room n a a') r

abbrev pub CholeskySolve : ℕ → ℕ → ℕ → List Float → List Float → ℕ → List Float → Type 0
CholeskySolve room n = SolveTrianglesOn (in_room n room)

abbrev pub CholeskyL : ℕ → ℕ → List Float → List Float → ℕ → List Float → Type 0
CholeskyL room n a l r l' = Passed number_of (Copied (in_room n room) a l l') r

abbrev pub CholeskyUnpack : ℕ → ℕ → List Float → ℕ → List Float → Type 0
CholeskyUnpack room n a r a' = Passed number_of (Unpacked (in_room n room) a a') r

abbrev pub CholeskyDeterminant : ℕ → ℕ → List Float → Determined → Type 0
CholeskyDeterminant room n a r = Passed determined_of (CholeskyDetermined (in_room n room) a) r

-- ---- UDU and twins

abbrev pub UduFactor : ℕ → List Float → List Float → List Float → ℕ → List Float → List Float → Type 0
UduFactor n p u d r u' d' = Passed number_of (λ (answer : Answer). udu.UduFactored p u d n answer u' d') r

abbrev pub FirstTwinPair : ℕ → ℕ → ℕ → List Float → ℕ → Type 0
FirstTwinPair room earlier n = FirstTwinPairOn (in_room n room) earlier

-- ---- packed triangles

abbrev pub PackedLbltFactor : ℕ → ℕ → List Float → List ℕ → ℕ → List Float → List ℕ → Type 0
PackedLbltFactor n = FactorOn (packed n)

abbrev pub PackedLbltSolve : ℕ → ℕ → ℕ → List Float → List ℕ → List Float → ℕ → List Float → Type 0
PackedLbltSolve n = SolveOn (packed n)

abbrev pub PackedLbltDeterminant : ℕ → ℕ → List Float → List ℕ → Determined → Type 0
PackedLbltDeterminant n = DeterminantOn (packed n)

abbrev pub PackedCholeskyFactor : ℕ → List Float → ℕ → List Float → Type 0
PackedCholeskyFactor n = ExtendOn (packed n) 0

abbrev pub PackedCholeskyExtend : ℕ → ℕ → List Float → List Float → List Float → ℕ → List Float → Type 0
PackedCholeskyExtend earlier n old rows fresh r fresh' = Passed number_of (λ (answer : Answer). Grown earlier n old rows fresh answer fresh') r

abbrev pub PackedCholeskySolve : ℕ → ℕ → List Float → List Float → ℕ → List Float → Type 0
PackedCholeskySolve n = SolveTrianglesOn (packed n)

abbrev pub PackedFirstTwin : ℕ → List Float → ℕ → Type 0
PackedFirstTwin n = FirstTwinPairOn (packed n) 0
